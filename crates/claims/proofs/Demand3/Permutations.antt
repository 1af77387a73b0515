-- Two lists of holdings on which every test counts alike are permutations of one another. Assumes nothing.
use mathlib.Core.Path.{◌≡◌, refl, sym, ap, ◌∙◌}
use mathlib.Core.Bool.{Bool, true, false, ◌&&◌, beq}
use mathlib.Core.List.Permᴰ
use mathlib.Core.List.{List, [], ◌∷◌, Permᴰ}
use mathlib.Core.Logic.{◌⊎◌, inl, inr}
use Prim.Native.Nat.{◌≤◌}
use native.Mathlib.Omega.{arith}
use lib.Dec.{eqb}
use borrow.Author.Tests.{eqb-true, eq-eqb}
use Rattle.model.specs.Lists.{bit, any, count, same}
use Rattle.model.specs.Rules.{Holding}
use Rattle.model.proofs.ListLaws.{test, and_left, and_right, same_true, same_refl}

-- for every test, as many pass
abbrev pub Alike : {A : Type 0} → List A → List A → Type 0
Alike {A} l m = (p : A → Bool) → count l p ≡ count m p

module _ {A : Type 0} where
  pub perm-alike : {l m : List A} → Permᴰ l m → Alike l m
  perm-alike Permᴰ.nil p = refl
  perm-alike (Permᴰ.cons e d) p = omega (arith, ap (λ (z : A). bit (p z)) e, perm-alike d p)
  perm-alike (Permᴰ.swap e f) p = omega (arith, ap (λ (z : A). bit (p z)) e, ap (λ (z : A). bit (p z)) f)
  perm-alike (Permᴰ.trans c d) p = perm-alike c p ∙ perm-alike d p

module _ {A : Type 0} (eq : A → A → Bool) (eq-path : (x y : A) → eq x y ≡ true → x ≡ y) (eq_self : (x : A) → eq x x ≡ true) where
  -- one occurrence of x taken out of m
  extract : (x : A) (m : List A) → 1 ≤ count m (eq x) → (r : List A) × Permᴰ m (x ∷ r)
  extract x [] i = absurd (omega arith)
  extract x (y ∷ m) i = go (test (eq x y)) (extract x m)
    where
      go : (eq x y ≡ true) ⊎ (eq x y ≡ false) → (1 ≤ count m (eq x) → (r : List A) × Permᴰ m (x ∷ r)) → (r : List A) × Permᴰ (y ∷ m) (x ∷ r)
      go (inl e) ih = (m, Permᴰ.cons (sym (eq-path x y e)) (Permᴰ.refl m))
      go (inr e) ih =
          let s : (r : List A) × Permᴰ m (x ∷ r) = ih (omega (arith, ap bit e)) in
          (y ∷ s.0, Permᴰ.trans (Permᴰ.cons refl s.1) (Permᴰ.swap refl refl))

  pub alike-perm : (l m : List A) → Alike l m → Permᴰ l m
  alike-perm [] [] h = Permᴰ.nil
  alike-perm [] (y ∷ m) h = absurd (omega (arith, h any))
  alike-perm (x ∷ l) m h =
      let s : (r : List A) × Permᴰ m (x ∷ r) = extract x m (omega (arith, h (eq x), ap bit (eq_self x))) in
      Permᴰ.trans (Permᴰ.cons refl (alike-perm l s.0 (λ p. omega (arith, h p, perm-alike s.1 p)))) (Permᴰ.symm s.1)

-- holdings are told apart by a test
abbrev same_holding : Holding → Holding → Bool
same_holding g h =
    eqb g.address h.address
    && (eqb g.port h.port
    && (eqb g.number h.number
    && (eqb g.lease h.lease
    && (eqb g.age h.age
    && (eqb g.qtype h.qtype && (eqb g.qclass h.qclass && (same g.name h.name && beq g.established h.established)))))))

beq-path : (a b : Bool) → beq a b ≡ true → a ≡ b
beq-path true true e = refl
beq-path true false e = sym e
beq-path false true e = e
beq-path false false e = refl

beq-self : (a : Bool) → beq a a ≡ true
beq-self true = refl
beq-self false = refl

holding-path : (g h : Holding) → same_holding g h ≡ true → g ≡ h
holding-path g h e =
    let a9 = beq g.established h.established in
    let a8 = same g.name h.name in
    let a7 = eqb g.qclass h.qclass in
    let a6 = eqb g.qtype h.qtype in
    let a5 = eqb g.age h.age in
    let a4 = eqb g.lease h.lease in
    let a3 = eqb g.number h.number in
    let a2 = eqb g.port h.port in
    let a1 = eqb g.address h.address in
    let b8 = a8 && a9 in
    let b7 = a7 && b8 in
    let b6 = a6 && b7 in
    let b5 = a5 && b6 in
    let b4 = a4 && b5 in
    let b3 = a3 && b4 in
    let b2 = a2 && b3 in
    let e2 = and_right a1 b2 e in
    let e3 = and_right a2 b3 e2 in
    let e4 = and_right a3 b4 e3 in
    let e5 = and_right a4 b5 e4 in
    let e6 = and_right a5 b6 e5 in
    let e7 = and_right a6 b7 e6 in
    let e8 = and_right a7 b8 e7 in
    let e9 = and_right a8 a9 e8 in
    λ i. record {
      established = beq-path g.established h.established e9 i;
      address = eqb-true g.address h.address (and_left a1 b2 e) i;
      port = eqb-true g.port h.port (and_left a2 b3 e2) i;
      number = eqb-true g.number h.number (and_left a3 b4 e3) i;
      lease = eqb-true g.lease h.lease (and_left a4 b5 e4) i;
      age = eqb-true g.age h.age (and_left a5 b6 e5) i;
      qtype = eqb-true g.qtype h.qtype (and_left a6 b7 e6) i;
      qclass = eqb-true g.qclass h.qclass (and_left a7 b8 e7) i;
      name = same_true g.name h.name (and_left a8 a9 e8) i;
    }

holding-self : (g : Holding) → same_holding g g ≡ true
holding-self g =
    rw (
      eq-eqb g.address g.address refl,
      eq-eqb g.port g.port refl,
      eq-eqb g.number g.number refl,
      eq-eqb g.lease g.lease refl,
      eq-eqb g.age g.age refl,
      eq-eqb g.qtype g.qtype refl,
      eq-eqb g.qclass g.qclass refl,
      same_refl g.name,
    ) (beq-self g.established)

pub alike-is-perm : (l m : List Holding) → Alike l m → Permᴰ l m
alike-is-perm = alike-perm same_holding holding-path holding-self
