-- `roster::unused_from` meets its contract. Assumes nothing.
use Prim.Native.Nat.{ℕ, ◌+◌, ◌-◌, ◌*◌}
use mathlib.Core.Path.{◌≡◌, refl, ap, ◌∙◌}
use mathlib.Core.Bool.{◌&&◌}
use native.Mathlib.Omega.{arith}
use borrow.Author.Rules.{rules}
use borrow.Author.Tests.{tests}
use Rattle.layout.specs.Shape.{all, unused_shape, unused_from}
use Rattle.layout.proofs.ShapeLaws.{all_none, all-next}
use Rattle.roster.proofs.Chains.{all_is}
use Rattle.roster.proofs.unused_from.Goals as goal

pub returns : goal.returns
unfolding unused_from
returns c =
    let m = c.args.m in
    let b = c.args.bytes.now in
    let p = λ (j : ℕ). unused_shape b (19 * m + 19 * j) in
    let z : m - m ≡ 0 = omega arith in
    all_is
    m
    (λ i. all p (i - m))
    (λ i. unused_shape b (19 * i))
    (rw z (all_none p))
    (λ i l.
    let n : i + 1 - m ≡ i - m + 1 = omega arith in
    let e : 19 * m + 19 * (i - m) ≡ 19 * i = omega arith in
    ap (all p) n ∙ all-next p (i - m) ∙ ap (λ (x : ℕ). all p (i - m) && unused_shape b x) e)
    _
    (omega arith)
    c.all.ensures.ran
    refl
    (λ x y q k. search (rules, tests))
