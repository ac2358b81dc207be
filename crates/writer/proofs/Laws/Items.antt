-- An item's bytes in a file: the step over them is a record, and its record, text and note are the item's.
-- Assumes nothing.
use Rattle.std.specs.Prelude.{Ok, Some, None, ℕ, ◌+◌, ◌≤◌, ◌<◌, ◌≡◌, drop}
use Rattle.std.proofs.Math.Path.{sym, ap}
use Rattle.std.proofs.Common.{◌∙◌, arith, add-zero, length-append, length-drop, drop-drop}
use mathlib.Core.List.{List, [], ◌++◌, append_assoc}
use Rattle.std.proofs.Math.Nat.{add_assoc}
use Rattle.std.proofs.Math.ListN.{length}
use Rattle.std.proofs.lemmas.List.{drop-append-le}
use Rattle.std.proofs.Math.Seq.{take-append_seam, drop-append_seam}
use Rattle.prelude.specs.Choice.{if_eq}
use Rattle.prelude.specs.Bytes.{byte, word, part, le16}
use Rattle.prelude.proofs.Laws.Bytes.{word-le16, byte-drop, word-drop}
use Rattle.records.specs.Fields.{fixed_of}
use Rattle.records.specs.Bodies.{judge_body}
use Rattle.records.specs.Encoding.{type_of, body_bytes, encode}
use Rattle.records.proofs.Laws.Encoding.{type_range}
use Rattle.records.proofs.Laws.Bodies.{note_short, length_body, text-length-encoded, note-length-encoded, after-fixed, after_text, record-encoded, judge-encoded}
use Rattle.records.specs.declared.types.Record.{Record}
use Rattle.book.specs.Walk.{type_at, body_length_at, body_at, next_place, step_at}
use Rattle.book.proofs.Laws.Walk.{record-step, end_step}
use Rattle.book.specs.Books.{entry_at}
use Rattle.book.specs.declared.types.Entry.{Entry}
use Rattle.writer.specs.Writing.{end_bytes}
use Rattle.writer.specs.Runs.{Item, Fine, item_bytes}

-- an item's bytes after the three head bytes
abbrev pub item_body : Item → List ℕ
item_body i = body_bytes i.kind i.text i.note

-- the entry at a place of a file is this item
pub record Entered (f : List ℕ) (e : Entry) (i : Item) : Type 0 where
  pub «record» : e.«record» ≡ i.kind
  pub text : part f e.text.place e.text.length ≡ i.text
  pub note : part f e.note.place e.note.length ≡ i.note

fixed_small : (r : Record) → fixed_of (type_of r) ≤ 17
unfolding fixed_of type_of if_eq
fixed_small (Record.Dated d) = omega arith
fixed_small (Record.Weekly w) = omega arith
fixed_small (Record.MonthlyByDate m) = omega arith
fixed_small (Record.MonthlyByPosition m) = omega arith
fixed_small (Record.Yearly y) = omega arith
fixed_small (Record.ToDo d) = omega arith

body_short : (i : Item) → Fine i → length (item_body i) < 65536
body_short i o =
    omega (arith, o.short, note_short i.note o.ruled, length_body i.kind i.text i.note, fixed_small i.kind)

item_length : (i : Item) → length (item_bytes i) ≡ 3 + length (item_body i)
unfolding encode le16
item_length i = omega arith

module _ (f : List ℕ) (at : ℕ) (i : Item) (rest : List ℕ) (d : drop at f ≡ item_bytes i ++ rest) where
  starts : byte f at ≡ type_of i.kind
  unfolding encode
  starts = ap (byte f) (sym (add-zero at)) ∙ sym (byte-drop f at 0) ∙ ap (λ l. byte l 0) d

  measured : length (item_body i) < 65536 → word f (at + 1) ≡ length (item_body i)
  unfolding encode le16
  measured h = sym (word-drop f at 1) ∙ ap (λ l. word l 1) d ∙ word-le16 (length (item_body i)) [] h

  behind : drop (at + 3) f ≡ item_body i ++ rest
  unfolding encode le16
  behind = sym (drop-drop 3 at f) ∙ ap (drop 3) d

  pub item-next : drop (at + length (item_bytes i)) f ≡ rest
  item-next = sym (drop-drop (length (item_bytes i)) at f) ∙ ap (drop (length (item_bytes i))) d ∙ drop-append_seam (item_bytes i) rest

  inside : at + 3 + length (item_body i) ≤ length f
  inside =
      let e = ap length d in
      let l = item_length i in
      let m = length-append (item_bytes i) rest in
      let n = length-drop at f in
      omega arith

  module _ (o : Fine i) where
    long : body_length_at f at ≡ length (item_body i)
    long = measured (body_short i o)

    whole : body_at f at ≡ item_body i
    whole = rw (long, behind) (take-append_seam (item_body i) rest)

    fine : judge_body (type_at f at) (body_at f at) ≡ Ok tt
    fine = rw (starts, whole) (judge-encoded i.kind i.text i.note o.ranged o.short o.clean o.ruled)

    next_place_is : next_place f at ≡ at + length (item_bytes i)
    next_place_is =
        let l = long in
        let m = item_length i in
        omega arith

    pub item-step : step_at f at ≡ Ok (Some (at + length (item_bytes i)))
    item-step =
        let t = type_range i.kind in
        let s = starts in
        let l = long in
        let h = inside in
        record-step f at (record { low = omega arith; high = omega arith; body = omega arith; fine = fine }) ∙ ap (λ (q : ℕ). Ok (Some q)) next_place_is

    further : (n : ℕ) → n ≤ length (item_body i) → drop (at + 3 + n) f ≡ drop n (item_body i) ++ rest
    further n h = sym (drop-drop n (at + 3) f) ∙ ap (drop n) behind ∙ drop-append-le n (item_body i) rest h

    pub item-entry : Entered f (entry_at f at) i
    unfolding entry_at
    item-entry =
        let k = i.kind in
        let t = i.text in
        let n = i.note in
        let l = length_body k t n in
        let e1 = text-length-encoded k t n in
        let e2 = note-length-encoded k t n (omega (arith, note_short n o.ruled)) in
        record {
          «record» = rw (starts, whole) (record-encoded k t n o.ranged);
          text =
              rw (starts, whole, e1, further (fixed_of (type_of k)) (omega arith), after-fixed k t n, append_assoc t n rest)
              (take-append_seam t (n ++ rest));
          note =
              rw (starts, whole, e1, e2, add_assoc (at + 3) (fixed_of (type_of k)) (length t), further (fixed_of (type_of k) + length t) (omega arith), after_text k t n)
              (take-append_seam n rest);
        }

-- the end record's bytes at a file's end
module _ (f : List ℕ) (at : ℕ) (d : drop at f ≡ end_bytes) where
  pub end-record-last : at + 3 ≡ length f
  end-record-last =
      let e = ap length d in
      let n = length-drop at f in
      omega arith

  pub step-at-end-record : step_at f at ≡ Ok None
  step-at-end-record =
      let t : byte f at ≡ 50 = ap (byte f) (sym (add-zero at)) ∙ sym (byte-drop f at 0) ∙ ap (λ l. byte l 0) d in
      let l : word f (at + 1) ≡ 0 = sym (word-drop f at 1) ∙ ap (λ l. word l 1) d in
      let e = end-record-last in
      end_step f at (record { there = omega arith; type = t; none = l })
