-- `record::has_address` meets its contract: two numbers of two halves are the same exactly if both halves are. Assumes nothing.
use Prim.Native.Nat.{◌+◌, ◌^◌, ◌<◌}
use mathlib.Core.Path.{◌≡◌, sym, ◌∙◌}
use native.Mathlib.Omega.{arith}
use Rattle.model.specs.Numbers.{big_endian}
use Rattle.model.proofs.NumberLaws.{big_lt}
use Rattle.layout.proofs.AddressLaws.{big-halves, halves-hit, halves-miss}
use Rattle.record.proofs.has_address.Goals as goal

pub returns-then-get64-address : goal.returns-then-get64-address
returns-then-get64-address c =
    let a = c.args in
    let b : big_endian a.t.now (a.a + 8) 8 < 2 ^ 64 = big_lt _ (a.a + 8) 8 (λ i. omega (arith, c.type_inv.t i)) in
    let e : big_endian a.t.now (a.a + 8) 8 ≡ a.address.low = sym c.get64.ensures ∙ c.if-get64-address.true in
    rw (big-halves _ a.a, c.get64-then-get64-address.ensures) (sym (halves-hit _ _ _ _ b (omega arith) e))

pub returns : goal.returns
returns c =
    let a = c.args in
    let b : big_endian a.t.now (a.a + 8) 8 < 2 ^ 64 = big_lt _ (a.a + 8) 8 (λ i. omega (arith, c.type_inv.t i)) in
    rw (big-halves _ a.a) (sym (halves-miss _ _ _ _ b (omega arith) (λ z. c.if-get64-address.false (c.get64.ensures ∙ z))))
