-- Choices as tests, for `grind`: prelude's laws, under the names that they had here.
-- Assumes nothing.
pub use Rattle.prelude.proofs.Laws.Tests.{b_tested, lt_tested, eq_tested, choices}
