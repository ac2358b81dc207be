-- The Calendar file across C, read and exported: number 0 and the values, or the refusal with every value 0.
-- Assumes nothing.
use Rattle.std.specs.Prelude.{Result, Ok, Err}
use Rattle.marshal.specs.declared.calendar_answers.DescriptorOut.{DescriptorOut}
use Rattle.marshal.specs.declared.calendar_answers.AppointmentOut.{AppointmentOut}
use Rattle.prelude.specs.declared.refusals.Refusal.{Refusal}
use Rattle.calendar.specs.declared.types.Descriptor.{Descriptor}
use Rattle.calendar.specs.declared.types.StoredAppointment.{StoredAppointment}

unfoldable pub descriptor_out : Result Descriptor Refusal → DescriptorOut
descriptor_out (Ok d) = record { number = 0; place = 0; day = d.day.0; offset = d.offset }
descriptor_out (Err e) = record { number = e.number; place = e.place; day = 0; offset = 0 }

unfoldable pub appointment_out : Result StoredAppointment Refusal → AppointmentOut
appointment_out (Ok e) =
    record {
      number = 0;
      place = 0;
      text_at = e.text.place;
      text_length = e.text.length;
      minute = e.minute.0;
      flags = e.flags;
    }
appointment_out (Err e) =
    record { number = e.number; place = e.place; text_at = 0; text_length = 0; minute = 0; flags = 0 }
