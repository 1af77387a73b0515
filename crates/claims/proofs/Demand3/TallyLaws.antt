-- The tally alone: what no option changes, and when one is told "full". Assumes nothing.
use Prim.Native.Nat.{ℕ, zero, suc, ◌+◌, ◌*◌, ◌%◌, ◌≤◌}
use native.Mathlib.Omega.{arith}
use mathlib.Core.Path.{◌≡◌, refl, ◌∙◌}
use mathlib.Core.Bool.{Bool, true, false, not, cond, ◌&&◌}
use mathlib.Core.List.{List, [], ◌∷◌, ◌++◌, map}
use mathlib.Core.Logic.{◌≢◌, inl, inr}
use lib.Dec.{eqb, leb}
use borrow.Author.Tests.{leb-true}
use Rattle.model.specs.Lists.{bit, count, keep}
use Rattle.model.specs.Query.{Question, LlqOption, question, llq_option}
use Rattle.model.specs.Table.{Line}
use Rattle.model.specs.Rules.{Holding}
use Rattle.model.specs.Sound.{valid_line}
use Rattle.model.specs.Serve.{Sender, Outcome}
use Rattle.model.specs.Calls.{ServeCall}
use Rattle.model.proofs.ListLaws.{and_left, either}
use Rattle.claims.specs.Tally.{with_holdings, new_holding, established_holding, renewed_holding, passed, Tally, line_of, is_full, AtShare, Full, is_setup, is_response, is_refresh, is_of, is_answered, is_refreshed, setup_tally, setup_outcome, response_outcome, refresh_outcome, malformed_outcome, outcome_to, number_for, lease_for, move_tally, option_tally, option_outcome, tally_before}

-- WHAT NO OPTION CHANGES: a number that does not depend on the holdings
module _ (f : Tally → ℕ) (same : (y : Tally) (hs : List Holding) → f (with_holdings y hs) ≡ f y) (s : Sender) (r : ℕ) (q : Question) (o : LlqOption) (y : Tally) where
  abbrev Stays : Tally → Type 0
  Stays z = f z ≡ f y

  setup-stays : (hs : List Holding) → Stays (setup_tally s r q o y hs)
  setup-stays [] = either Stays (is_full y s.address) refl (same y (y.holdings ++ (new_holding s r q o y ∷ [])))
  setup-stays (h ∷ hs) = refl

  option-stays : f (option_tally s r q o y) ≡ f y
  unfolding option_tally
  option-stays =
      either Stays (is_setup o) (setup-stays (keep (is_of s q) y.holdings))
      (either Stays (is_response o) (same y (map (λ h. cond (is_answered s q o h) (established_holding h) h) y.holdings))
      (either Stays (is_refresh o)
      (either Stays (eqb o.lease 0) (same y (keep (λ h. not (is_refreshed s q o h)) y.holdings))
      (same y (map (λ h. cond (is_refreshed s q o h) (renewed_holding (lease_for o.lease) h) h) y.holdings)))
      refl))

before-stays : (f : Tally → ℕ) → ((y : Tally) (hs : List Holding) → f (with_holdings y hs) ≡ f y) → (c : ServeCall) (y : Tally) (i : ℕ)
    → f (tally_before c y i) ≡ f (move_tally y (c.week * 604800 + c.second))
unfolding tally_before
before-stays f same c y zero = refl
before-stays f same c y (suc i) =
    option-stays f same c.sender c.random (question c.datagram i) (llq_option c.datagram i) (tally_before c y i) ∙ before-stays f same c y i

pub before-n : (c : ServeCall) (y : Tally) (i : ℕ) → (tally_before c y i).n ≡ y.n
unfolding move_tally
before-n c y i = before-stays (λ z. z.n) (λ z hs. refl) c y i

pub before-cycle : (c : ServeCall) (y : Tally) (i : ℕ) → (tally_before c y i).cycle ≡ y.cycle
unfolding move_tally
before-cycle c y i = before-stays (λ z. z.cycle) (λ z hs. refl) c y i

pub before-running : (c : ServeCall) (y : Tally) (i : ℕ)
    → (tally_before c y i).running ≡ (y.running + passed y.cycle y.place (c.week * 604800 + c.second)) % 4294967296
unfolding move_tally
before-running c y i = before-stays (λ z. z.running) (λ z hs. refl) c y i

-- "FULL" IS TOLD to a setup that finds no holding of an address that is full, and to nothing else
pub record FullSetup (s : Sender) (q : Question) (o : LlqOption) (y : Tally) : Type 0 where
  pub setup : is_setup o ≡ true
  pub unheld : keep (is_of s q) y.holdings ≡ []
  pub full : is_full y s.address ≡ true

module _ (s : Sender) (r : ℕ) (q : Question) (o : LlqOption) (y : Tally) where
  abbrev NotOne : Outcome → Type 0
  NotOne x = x.error ≢ 1

  setup-told : is_setup o ≡ true → (hs : List Holding) → keep (is_of s q) y.holdings ≡ hs → (setup_outcome s r q o y hs).error ≡ 1 → FullSetup s q o y
  setup-told i [] k e = go (is_full y s.address) refl e
    where
      go : (v : Bool) → is_full y s.address ≡ v
          → (cond v (outcome_to o 1 0 60) (outcome_to o 0 (number_for y.holdings r) (lease_for o.lease))).error ≡ 1 → FullSetup s q o y
      go true f e = record { setup = i; unheld = k; full = f }
      go false f e = absurd (omega arith)
  setup-told i (h ∷ hs) k e = absurd (omega arith)

  response-other : (hs : List Holding) → NotOne (response_outcome o hs)
  response-other [] e = omega arith
  response-other (h ∷ hs) e = omega arith

  refresh-other : (hs : List Holding) → NotOne (refresh_outcome o hs)
  refresh-other [] e = omega arith
  refresh-other (h ∷ hs) e = omega arith

  malformed-other : NotOne (malformed_outcome o)
  malformed-other = either (λ (x : ℕ). x ≢ 1) (eqb o.version 1) (λ e. omega arith) (λ e. omega arith)

  other : Outcome
  other =
      cond (is_response o) (response_outcome o (keep (is_answered s q o) y.holdings))
      (cond (is_refresh o) (refresh_outcome o (keep (is_refreshed s q o) y.holdings)) (malformed_outcome o))

  not-told : NotOne other
  unfolding other
  not-told =
      either NotOne (is_response o) (response-other (keep (is_answered s q o) y.holdings))
      (either NotOne (is_refresh o) (refresh-other (keep (is_refreshed s q o) y.holdings)) malformed-other)

  pub told-full : (option_outcome s r q o y).error ≡ 1 → FullSetup s q o y
  unfolding option_outcome other
  told-full e = go (is_setup o) refl e
    where
      go : (v : Bool) → is_setup o ≡ v → (cond v (setup_outcome s r q o y (keep (is_of s q) y.holdings)) other).error ≡ 1 → FullSetup s q o y
      go true i e = setup-told i (keep (is_of s q) y.holdings) refl e
      go false i e = absurd (not-told e)

  pub full-told : FullSetup s q o y → (option_outcome s r q o y).error ≡ 1
  unfolding option_outcome
  full-told f = rw (f.setup, f.unheld, f.full)

-- A LINE'S SHARE is at most its limit, where the roster rules hold
pub share-least : (ls : List Line) (a : ℕ) → count ls (λ l. not (valid_line l)) ≡ 0 → (line_of ls a).share ≤ (line_of ls a).limit
unfolding line_of
share-least [] a h = omega arith
share-least (l ∷ ls) a h =
    either (λ (x : Line). x.share ≤ x.limit) (eqb l.address a) (line-le (valid_line l) refl (omega arith)) (share-least ls a (omega arith))
  where
    line-le : (v : Bool) → valid_line l ≡ v → bit (not v) ≡ 0 → l.share ≤ l.limit
    line-le true v b =
        let x = leb l.share l.limit in
        let y = leb 1 l.limit in
        let z = leb l.limit 64 in
        leb-true l.share l.limit (and_left x y (and_left (x && y) z v))
    line-le false v b = absurd (omega arith)

-- who is below its share is not full
pub full-share : (y : Tally) (a : ℕ) → count y.roster (λ l. not (valid_line l)) ≡ 0 → Full y a → AtShare y a
full-share y a h (inl l) = omega (arith, share-least y.roster a h)
full-share y a h (inr p) = p.0
