-- The tally's rules, spelled out apart, agree with the model's. Assumes nothing.
use Prim.Native.Nat.{ℕ, ◌+◌, ◌-◌}
use native.Mathlib.Omega.{arith}
use mathlib.Core.Path.{◌≡◌, refl, sym, ap, ◌∙◌}
use mathlib.Core.Bool.{Bool, true, false, cond, not, ◌&&◌, ◌||◌, or-true, and_assoc, and_comm}
use mathlib.Core.List.{List, [], ◌∷◌}
use mathlib.Core.Logic.{inl, inr}
use lib.Dec.{eqb, leb, ltb}
use borrow.Author.Tests.{eqb-true, ltb-true, ltb-false, leb-true, leb-false, le-leb, lt-leb}
use Rattle.model.specs.Lists.{bit, count, same}
use Rattle.model.specs.Query.{Question, LlqOption}
use Rattle.model.specs.Table.{Line}
use Rattle.model.specs.Rules.{Holding, held_by, numbered, asks, share_of, limit_of, reserve, full, granted_lease}
use Rattle.model.specs.Serve.{Sender, life_left, right_lease, answers, refreshes, Kind, bad_version, bad_format, setup, response, refresh, kind_of_option}
use Rattle.model.proofs.ListLaws.{count-any}
use Rattle.claims.specs.Tally.{Tally, held_in, line_of, reserve_in, free_in, is_full, Full, lease_for, number_used, is_setup, is_response, is_refresh, is_of, is_answered, is_refreshed}

-- WHO HOLDS WHAT

pub held_in_lem : (hs : List Holding) (a : ℕ) → held_in hs a ≡ count hs (held_by a)
unfolding held_in
held_in_lem [] a = refl
held_in_lem (h ∷ hs) a = go (eqb h.address a) (held_in_lem hs a)
  where
    go : (b : Bool) → held_in hs a ≡ count hs (held_by a) → cond b (1 + held_in hs a) (held_in hs a) ≡ bit b + count hs (held_by a)
    go true e = omega arith
    go false e = omega arith

pub share-of : (ls : List Line) (a : ℕ) → (line_of ls a).share ≡ share_of ls a
unfolding line_of share_of
share-of [] a = refl
share-of (l ∷ ls) a = go (eqb l.address a) (share-of ls a)
  where
    go : (b : Bool) → (line_of ls a).share ≡ share_of ls a → (cond b l (line_of ls a)).share ≡ cond b l.share (share_of ls a)
    go true e = refl
    go false e = e

pub limit-of : (ls : List Line) (a : ℕ) → (line_of ls a).limit ≡ limit_of ls a
unfolding line_of limit_of
limit-of [] a = refl
limit-of (l ∷ ls) a = go (eqb l.address a) (limit-of ls a)
  where
    go : (b : Bool) → (line_of ls a).limit ≡ limit_of ls a → (cond b l (line_of ls a)).limit ≡ cond b l.limit (limit_of ls a)
    go true e = refl
    go false e = e

-- share less held where that is positive
pub short-of : (held share : ℕ) → cond (ltb held share) (share - held) 0 ≡ share - held
short-of held share = go (ltb held share) refl
  where
    go : (b : Bool) → ltb held share ≡ b → cond b (share - held) 0 ≡ share - held
    go true e = refl
    go false e = omega (arith, ltb-false held share e)

pub reserve-in : (ls : List Line) (hs : List Holding) → reserve_in ls hs ≡ reserve ls (count hs)
unfolding reserve_in reserve
reserve-in [] hs = refl
reserve-in (l ∷ ls) hs = omega (arith, short-of (held_in hs l.address) l.share, held_in_lem hs l.address, reserve-in ls hs)

-- FULL

pub is-full : (y : Tally) (a : ℕ) → is_full y a ≡ full y.n y.roster (count y.holdings) a
unfolding is_full full
is-full y a =
    rw (limit-of y.roster a, share-of y.roster a, held_in_lem y.holdings a, reserve-in y.roster y.holdings, count-any y.holdings)

-- the test and the inequalities
pub full-exactly : (y : Tally) (a : ℕ) → (is_full y a ≡ true → Full y a) × (Full y a → is_full y a ≡ true)
unfolding is_full
full-exactly y a = (go (leb m k) refl (leb s k) refl, back)
  where
    m : ℕ
    m = (line_of y.roster a).limit

    s : ℕ
    s = (line_of y.roster a).share

    k : ℕ
    k = held_in y.holdings a

    z : Bool
    z = leb (free_in y) (reserve_in y.roster y.holdings)

    go : (b : Bool) → leb m k ≡ b → (d : Bool) → leb s k ≡ d → b || (d && z) ≡ true → Full y a
    go true e d f h = inl (leb-true m k e)
    go false e true f h = inr (leb-true s k f, leb-true (free_in y) (reserve_in y.roster y.holdings) h)
    go false e false f h = absurd (let w : ◌≡◌ {A = ℕ} 0 1 = cc in omega arith)

    back : Full y a → leb m k || (leb s k && z) ≡ true
    back (inl h) = rw (le-leb m k h)
    back (inr h) = rw (le-leb s k h.0, le-leb (free_in y) (reserve_in y.roster y.holdings) h.1) (or-true (leb m k))

-- LEASE AND NUMBER

pub lease-for : (asked : ℕ) → lease_for asked ≡ granted_lease asked
lease-for asked = go (ltb asked 60) refl (ltb 7200 asked) refl
  where
    go : (b : Bool) → ltb asked 60 ≡ b → (d : Bool) → ltb 7200 asked ≡ d → cond b 60 (cond d 7200 asked) ≡ granted_lease asked
    go true e d f = omega (arith, ltb-true asked 60 e)
    go false e true f = omega (arith, ltb-true 7200 asked f)
    go false e false f = omega (arith, ltb-false asked 60 e, ltb-false 7200 asked f)

pub number-used : (hs : List Holding) (x : ℕ) → number_used hs x ≡ leb 1 (count hs (numbered x))
unfolding number_used
number-used [] x = refl
number-used (h ∷ hs) x = go (eqb h.number x) (number-used hs x)
  where
    go : (b : Bool) → number_used hs x ≡ leb 1 (count hs (numbered x)) → b || number_used hs x ≡ leb 1 (bit b + count hs (numbered x))
    go true e = sym (le-leb 1 (1 + count hs (numbered x)) (omega arith))
    go false e = let z : 0 + count hs (numbered x) ≡ count hs (numbered x) = omega arith in rw z e

-- TESTS OF ONE HOLDING

and-swap : (a b c : Bool) → a && b && c ≡ a && c && b
and-swap a b c = and_assoc a b c ∙ ap (λ (x : Bool). a && x) (and_comm b c) ∙ sym (and_assoc a c b)

pub is-of : (s : Sender) (q : Question) (h : Holding) → is_of s q h ≡ asks s.address s.port q h
is-of s q h =
    let own = eqb h.address s.address && eqb h.port s.port in
    let n = same h.name q.name in
    let t = eqb h.qtype q.qtype in
    let c = eqb h.qclass q.qclass in
    ap (λ (x : Bool). x && c) (and-swap own n t) ∙ and-swap (own && t) n c

-- a lease is at most what is sent with the age exactly if what remains of it is at most what is sent
pub least-sent : (lease age sent : ℕ) → leb lease (sent + age) ≡ leb (life_left lease age) sent
least-sent lease age sent = go (leb lease (sent + age)) refl
  where
    go : (b : Bool) → leb lease (sent + age) ≡ b → b ≡ leb (life_left lease age) sent
    go true e = sym (le-leb (life_left lease age) sent (omega (arith, leb-true lease (sent + age) e)))
    go false e = sym (lt-leb (life_left lease age) sent (omega (arith, leb-false lease (sent + age) e)))

pub is-answered : (s : Sender) (q : Question) (o : LlqOption) (h : Holding) → is_answered s q o h ≡ answers s q o h
is-answered s q o h =
    rw (is-of s q h, least-sent h.lease h.age o.lease)
    (ap (λ (x : Bool). x && right_lease o h) (and_comm (asks s.address s.port q h) (eqb h.number o.number)))

pub is-refreshed : (s : Sender) (q : Question) (o : LlqOption) (h : Holding) → is_refreshed s q o h ≡ refreshes s q o h
is-refreshed s q o h =
    let a = asks s.address s.port q h in
    let n = eqb h.number o.number in
    rw (is-of s q h) (and_comm (a && n) h.established ∙ ap (λ (x : Bool). h.established && x) (and_comm a n))

-- KINDS OF OPTIONS

-- the kind by the tally's tests
abbrev pub kind_by : Bool → Bool → Bool → Bool → Kind
kind_by setups responds refreshes version = cond setups setup (cond responds response (cond refreshes refresh (cond version bad_format bad_version)))

pub kind-is : (o : LlqOption) → kind_of_option o ≡ kind_by (is_setup o) (is_response o) (is_refresh o) (eqb o.version 1)
unfolding kind_of_option
kind-is o =
    go (eqb o.version 1) (eqb o.opcode 1) (eqb o.opcode 2) (eqb o.error 0) (eqb o.number 0)
    (λ e f. let z : ◌≡◌ {A = ℕ} 1 2 = sym (eqb-true o.opcode 1 e) ∙ eqb-true o.opcode 2 f in omega arith)
  where
    go : (v p w e n : Bool) → (p ≡ true → w ≡ true → ⊥)
        → cond (not v) bad_version (cond (not (p || w) || not e) bad_format (cond w refresh (cond n setup response)))
        ≡ kind_by (v && (p || w) && e && (p && n)) (v && (p || w) && e && (p && not n)) (v && (p || w) && e && w) v
    go false p w e n d = refl
    go true true true e n d = absurd (d refl refl)
    go true true false false n d = refl
    go true true false true true d = refl
    go true true false true false d = refl
    go true false false e n d = refl
    go true false true false n d = refl
    go true false true true n d = refl
