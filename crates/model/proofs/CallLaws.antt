-- What the tests of a call say, one by one, and the number that a call gives. Assumes nothing.
use Prim.Native.Nat.{ℕ, zero, suc, ◌*◌, ◌≤◌, ◌<◌}
use native.Mathlib.Omega.{arith}
use mathlib.Core.Path.{◌≡◌, refl, ap}
use mathlib.Core.Bool.{Bool, true, false, not, cond, ◌&&◌}
use mathlib.Core.List.{List, [], ◌∷◌}
use mathlib.Core.Logic.{◌≢◌}
use lib.ListN.{length, get_or}
use lib.Dec.{eqb, leb}
use borrow.Author.Tests.{eqb-true, eqb-false, leb-true, not-true}
use Rattle.model.specs.Lists.{every, up_to}
use Rattle.model.specs.Table.{size_of, layout_of, slots_in}
use Rattle.model.specs.Sound.{sound_roster}
use Rattle.model.specs.Calls.{MakeCall, TickCall, ServeCall, refusal, table_length, roster_count, roster_lines, good_roster, make_refusal, made_by, make, tick_refusal, ticked_by, tick, serve_refusal, served_by, serve}
use Rattle.model.proofs.ListLaws.{and_left, and_right, either, every-index}

-- THE TABLE'S LENGTH
pub record LengthFacts (size : ℕ) : Type 0 where
  pub slots_min : 1 ≤ slots_in size
  pub slots_max : slots_in size ≤ 64
  pub whole : size ≡ size_of (layout_of size) (slots_in size)

pub length-facts : (size : ℕ) → table_length size ≡ true → LengthFacts size
unfolding table_length
length-facts size h =
    let a = leb 1 (slots_in size) in
    let b = leb (slots_in size) 64 in
    let c = eqb size (size_of (layout_of size) (slots_in size)) in
    let ab : a && b ≡ true = and_left (a && b) c h in
    record {
      slots_min = leb-true 1 (slots_in size) (and_left a b ab);
      slots_max = leb-true (slots_in size) 64 (and_right a b ab);
      whole = eqb-true size (size_of (layout_of size) (slots_in size)) (and_right (a && b) c h);
    }

-- THE ROSTER GIVEN, of n slots
pub record GivenRoster (n : ℕ) (r : List ℕ) : Type 0 where
  pub whole : length r ≡ 19 * roster_count r
  pub few : roster_count r ≤ 16
  pub kinds : (i : ℕ) → i < roster_count r → get_or r (19 * i) 0 ≡ 3
  pub sound : sound_roster n (roster_lines r) ≡ true

pub given-roster : (n : ℕ) (r : List ℕ) → good_roster n r ≡ true → GivenRoster n r
unfolding good_roster
given-roster n r t =
    let a = eqb (length r) (19 * roster_count r) in
    let b = leb (roster_count r) 16 in
    let c = every (λ i. eqb (get_or r (19 * i) 0) 3) (up_to (roster_count r) (λ i. i)) in
    let e = sound_roster n (roster_lines r) in
    let t3 = and_left (a && b && c) e t in
    let t2 = and_left (a && b) c t3 in
    record {
      whole = eqb-true (length r) (19 * roster_count r) (and_left a b t2);
      few = leb-true (roster_count r) 16 (and_right a b t2);
      kinds = λ i l. eqb-true (get_or r (19 * i) 0) 3 (every-index (λ i. eqb (get_or r (19 * i) 0) 3) (roster_count r) (and_right (a && b) c t3) i l);
      sound = and_right (a && b && c) e t;
    }

-- REFUSALS

-- where none is given, and each has a number from 1 on, no condition holds
first-unrefused : (k : ℕ × Bool) (ks : List (ℕ × Bool)) → leb 1 k.0 ≡ true → refusal (k ∷ ks) ≡ 0 → (k.1 ≡ false) × (refusal ks ≡ 0)
unfolding refusal
first-unrefused k ks n e = go k.1 refl e
  where
    go : (v : Bool) → k.1 ≡ v → cond v k.0 (refusal ks) ≡ 0 → (k.1 ≡ false) × (refusal ks ≡ 0)
    go true h e = absurd (omega (arith, leb-true 1 k.0 n))
    go false h e = (h, e)

pub unrefused : (ks : List (ℕ × Bool)) → every (λ k. leb 1 k.0) ks ≡ true → refusal ks ≡ 0 → (i : ℕ) → i < length ks → (get_or ks i (0, false)).1 ≡ false
unfolding every
unrefused [] n e i l = absurd (omega arith)
unrefused (k ∷ ks) n e zero l = (first-unrefused k ks (and_left (leb 1 k.0) (every (λ k. leb 1 k.0) ks) n) e).0
unrefused (k ∷ ks) n e (suc i) l =
    let a = leb 1 k.0 in
    let b = every (λ k. leb 1 k.0) ks in
    unrefused ks (and_right a b n) (first-unrefused k ks (and_left a b n) e).1 i (omega arith)

-- a number that none of them has is not given
pub not-given : (x : ℕ) (ks : List (ℕ × Bool)) → 1 ≤ x → every (λ k. not (eqb k.0 x)) ks ≡ true → refusal ks ≢ x
unfolding refusal every
not-given x [] h n = λ e. omega arith
not-given x (k ∷ ks) h n =
    let a = not (eqb k.0 x) in
    let b = every (λ k. not (eqb k.0 x)) ks in
    either (λ (z : ℕ). z ≢ x) k.1 (eqb-false k.0 x (not-true (eqb k.0 x) (and_left a b n))) (not-given x ks h (and_right a b n))

-- THE NUMBER GIVEN is the refusal's
made_by_lem : (k : ℕ) (c : MakeCall) (b : List ℕ) → (made_by k c b).number ≡ k
made_by_lem zero c b = refl
made_by_lem (suc k) c b = refl

ticked-by : (k : ℕ) (c : TickCall) (b : List ℕ) → (ticked_by k c b).number ≡ k
ticked-by zero c b = refl
ticked-by (suc k) c b = refl

served-by : (k : ℕ) (c : ServeCall) (b lent : List ℕ) → (served_by k c b lent).number ≡ k
served-by zero c b lent = refl
served-by (suc k) c b lent = refl

pub make-number : (c : MakeCall) (b : List ℕ) → (make c b).number ≡ make_refusal c (length b)
unfolding make
make-number c b = made_by_lem (make_refusal c (length b)) c b

pub tick-number : (c : TickCall) (b : List ℕ) → (tick c b).number ≡ tick_refusal c b
unfolding tick
tick-number c b = ticked-by (tick_refusal c b) c b

pub serve-number : (c : ServeCall) (b lent : List ℕ) → (serve c b lent).number ≡ serve_refusal c b
unfolding serve
serve-number c b lent = served-by (serve_refusal c b) c b lent

-- AN ANSWERED CALL
pub make-answered : (c : MakeCall) (b : List ℕ) → make_refusal c (length b) ≡ 0 → make c b ≡ made_by 0 c b
unfolding make
make-answered c b e = ap (λ (k : ℕ). made_by k c b) e

pub tick-answered : (c : TickCall) (b : List ℕ) → tick_refusal c b ≡ 0 → tick c b ≡ ticked_by 0 c b
unfolding tick
tick-answered c b e = ap (λ (k : ℕ). ticked_by k c b) e

pub serve-answered : (c : ServeCall) (b lent : List ℕ) → serve_refusal c b ≡ 0 → serve c b lent ≡ served_by 0 c b lent
unfolding serve
serve-answered c b lent e = ap (λ (k : ℕ). served_by k c b lent) e
