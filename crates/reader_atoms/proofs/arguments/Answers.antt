-- `arguments` reads as the definition does: one argument, two or three.
use Rattle.std.proofs.Common.{◌≡◌, ◌≤◌, arith}
use Rattle.reader_bytes.proofs.Reading.{hands_on}
use Rattle.reader_atoms.proofs.ArgumentBytes.{first_refused, second_refused, third_refused, one_argument, two_arguments, three_arguments}
use Rattle.reader_atoms.proofs.arguments.Goals as goal

pub returns-in_err-first : goal.returns-in_err-first
returns-in_err-first c = hands_on _ _ c.from_residual.ensures.1 (first_refused _ _ _ _ c.requires.0 c.in_err-first.ensures.says)

pub returns-then-arity-eq1 : goal.returns-then-arity-eq1
returns-then-arity-eq1 c = one_argument _ _ _ _ c.in_ok-first.ensures.within c.if-arity-eq1.true c.in_ok-first.ensures.says

pub returns-in_err-second : goal.returns-in_err-second
returns-in_err-second c =
    let more : 2 ≤ c.args.arity = omega (arith, c.requires, c.if-arity-eq1.false) in
    hands_on _ _ c.from_residual-in_err-second.ensures.1 (second_refused _ _ _ _ more c.in_ok-first.ensures.says c.in_err-second.ensures.says)

pub returns-then-arity-eq2 : goal.returns-then-arity-eq2
returns-then-arity-eq2 c =
    two_arguments _ _ _ _ c.in_ok-second.ensures.within c.if-arity-eq2.true c.in_ok-first.ensures.says c.in_ok-second.ensures.says

pub returns-in_err-third : goal.returns-in_err-third
returns-in_err-third c =
    let more : 3 ≤ c.args.arity = omega (arith, c.requires, c.if-arity-eq1.false, c.if-arity-eq2.false) in
    hands_on _ _ c.from_residual-in_err-third.ensures.1
    (third_refused _ _ _ _ more c.in_ok-first.ensures.says c.in_ok-second.ensures.says c.in_err-third.ensures.says)

pub returns : goal.returns
returns c =
    let three : c.args.arity ≡ 3 = omega (arith, c.requires, c.if-arity-eq1.false, c.if-arity-eq2.false) in
    three_arguments _ _ _ _ c.in_ok-third.ensures.within three c.in_ok-first.ensures.says c.in_ok-second.ensures.says c.in_ok-third.ensures.says
