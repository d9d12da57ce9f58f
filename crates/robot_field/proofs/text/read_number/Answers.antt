use Rattle.std.proofs.Common.{◌≡◌, length, get_or, subst, sym, ap, inl, inr, arith}
use Rattle.std.proofs.lemmas.Bool.Decides.{nat_tests}
use Rattle.robot_field.specs.Numbers.{ReadsOne}
use Rattle.robot_field.proofs.Reading.{parsed_is_read, no_number, no_number_empty}
use Rattle.robot_field.proofs.text.read_number.Goals as goal
use Rattle.robot_field.proofs.text.read_number.Goals.{then-is_empty-via-then-is_empty, then-is_empty-via-else-is_empty+then-digits-lt49, then-is_empty-via-else-is_empty+else-digits-lt49+then-digits-gt57}

pub returns-then-is_empty : goal.returns-then-is_empty
returns-then-is_empty c =
    let first : get_or c.as_bytes-digits.result.now 0 0 ≡ get_or c.args.text.now 0 0 = ap (λ t. get_or t 0 0) c.as_bytes-digits.ensures.value in
    elim c.then-is_empty.branch [
      | then-is_empty-via-then-is_empty w ↦ no_number_empty c.args.text.now (subst (λ t. length t ≡ 0) c.as_bytes-digits.ensures.value (grind (arith, nat_tests)))
      | then-is_empty-via-else-is_empty+then-digits-lt49 w ↦ no_number c.args.text.now (inl (omega arith))
      | then-is_empty-via-else-is_empty+else-digits-lt49+then-digits-gt57 w ↦ no_number c.args.text.now (inr (omega arith))
    ]

pub returns : goal.returns
returns c =
    let first : get_or c.as_bytes-digits.result.now 0 0 ≡ get_or c.args.text.now 0 0 = ap (λ t. get_or t 0 0) c.as_bytes-digits.ensures.value in
    subst (ReadsOne c.args.text.now) (sym c.ok.ensures.value) (parsed_is_read c.args.text.now c.parse.result c.parse.ensures.value.0 (omega arith))
