-- The integers are a linear order.
use lib.IntN.{ℤ}
use lib.Signed.{lt_z}
use Rattle.theory_signed.proofs.Laws.{signed}
use Rattle.theory_intervals.proofs.Line.{Linear}

pub int_linear : Linear ℤ lt_z
int_linear = record {
  irr = λ x. omega signed;
  tra = λ x y z h k. omega signed;
  con = λ x y h k. omega signed;
}
