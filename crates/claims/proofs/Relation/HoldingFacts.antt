-- The rules of a sound table's holdings as facts of the counts alone, and how a changed table and tally come to be related. Assumes nothing.
use Prim.Native.Nat.{ℕ, suc, ◌+◌, ◌-◌, ◌≤◌, ◌<◌}
use native.Mathlib.Omega.{arith}
use mathlib.Core.Path.{◌≡◌, refl, sym, ap, ◌∙◌, fun_ext}
use mathlib.Core.Bool.{Bool, true, false, not, cond, ◌&&◌}
use mathlib.Core.List.{List, [], ◌∷◌, map}
use mathlib.Core.Logic.{◌≢◌}
use lib.ListN.{length}
use lib.Dec.{eqb, leb}
use borrow.Author.Tests.{eqb-true, ne_eqb, leb-false}
use Rattle.model.specs.Lists.{bit, count, any, keep}
use Rattle.model.specs.Table.{Line, Table, cycle_in}
use Rattle.model.specs.Rules.{Holding, holdings, Counts, held_by, numbered, share_of, limit_of, reserve, full}
use Rattle.model.specs.Sound.{Sound, Fits, non_zero_number, valid_lease, live, valid_name, same_question}
use Rattle.model.proofs.ListLaws.{bit_le, and_right, or_left, or_right, eqb-sym, count-any, count-keep, count-mono, count-split, hits, total, total-le}
use Rattle.model.proofs.Facts.{same-question-via}
use Rattle.claims.specs.Tally.{Tally}
use Rattle.claims.specs.Demand3.{WithinLimits}
use Rattle.claims.proofs.Relation.{Related}
use Rattle.claims.proofs.Relation.TallyRules.{held_in_lem, limit-of}

-- of n slots, a roster and the counts of holdings
pub record HoldingFacts (n : ℕ) (ls : List Line) (c : Counts) : Type 0 where
  pub non_zero : c (λ h. not (non_zero_number h)) ≡ 0
  pub numbers : (x : ℕ) → c (numbered x) ≤ 1
  pub leases : c (λ h. not (valid_lease h)) ≡ 0
  pub ages : c (λ h. not (live h)) ≡ 0
  pub names : c (λ h. not (valid_name h)) ≡ 0
  pub questions : (k : Holding) → c (same_question k) ≤ 1
  pub limits : (a : ℕ) → c (held_by a) ≤ limit_of ls a
  pub reserved : reserve ls c + c any ≤ n

pub table-facts : (t : Table) → Sound t → HoldingFacts (length t.slots) t.roster (count (holdings t))
table-facts t s =
    record {
      non_zero = s.non_zero;
      numbers = s.numbers;
      leases = s.leases;
      ages = s.ages;
      names = s.names;
      questions = s.questions;
      limits = s.limits;
      reserved = s.reserved;
    }

-- the tally's holdings obey them too
pub tally-facts : (t : Table) (y : Tally) → Related t y → HoldingFacts y.n y.roster (count y.holdings)
tally-facts t y r = rw (r.n, r.roster, fun_ext r.entries) at (table-facts t r.sound)

-- and no address holds more than its limit
pub within-limits : (t : Table) (y : Tally) → Related t y → WithinLimits y
within-limits t y r a = rw (held_in_lem y.holdings a, limit-of y.roster a) ((tally-facts t y r).limits a)

pub listed-once : (t : Table) (y : Tally) → Related t y → (a : ℕ) → count y.roster (λ l. eqb l.address a) ≤ 1
listed-once t y r = rw r.roster at r.sound.listed_once

-- A CHANGED TABLE u AND TALLY w: what is left to show
pub record Changed (u : Table) (y w : Tally) : Type 0 where
  pub cycle : cycle_in u ≡ w.cycle
  pub place : u.clock.place ≡ w.place
  pub running : u.clock.running ≡ w.running
  pub place_less : u.clock.place < cycle_in u
  pub n : w.n ≡ y.n
  pub roster : w.roster ≡ y.roster
  pub entries : (p : Holding → Bool) → count (holdings u) p ≡ count w.holdings p
  pub facts : HoldingFacts y.n y.roster (count w.holdings)
  pub fits : Fits u

pub related-next : (t u : Table) (y w : Tally) → Related t y → length u.slots ≡ length t.slots → u.roster ≡ t.roster → Changed u y w → Related u w
related-next t u y w r len ro c =
    let s = r.sound in
    let f : HoldingFacts (length t.slots) t.roster (count (holdings u)) = rw (r.n, r.roster, fun_ext c.entries) c.facts in
    record {
      cycle = c.cycle;
      place = c.place;
      running = c.running;
      n = len ∙ r.n ∙ sym c.n;
      roster = ro ∙ r.roster ∙ sym c.roster;
      entries = c.entries;
      sound = record {
        place = c.place_less;
        slots_min = rw len s.slots_min;
        slots_max = rw len s.slots_max;
        lines = rw ro s.lines;
        listed_once = rw ro s.listed_once;
        valid_lines = rw ro s.valid_lines;
        share_sum = rw (len, ro) s.share_sum;
        non_zero = f.non_zero;
        numbers = f.numbers;
        leases = f.leases;
        ages = f.ages;
        names = f.names;
        questions = f.questions;
        limits = rw ro f.limits;
        reserved = rw (len, ro) f.reserved;
      };
      fits = c.fits;
    }

-- STRIKING AND CHANGING HOLDINGS

abbrev pub addresses : List Line → List ℕ
addresses ls = map (λ (l : Line). l.address) ls

hits-listed : (ls : List Line) (z : ℕ) → hits (addresses ls) z ≡ count ls (λ l. eqb l.address z)
hits-listed [] z = refl
hits-listed (l ∷ ls) z = omega (arith, ap bit (eqb-sym z l.address), hits-listed ls z)

-- what the reserve gains is at most what is struck
reserve-struck : (ls : List Line) (c d : Counts) (s : List Holding) → ((a : ℕ) → c (held_by a) ≡ d (held_by a) + count s (held_by a))
    → reserve ls d ≤ reserve ls c + total (λ (h : Holding). h.address) (addresses ls) s
unfolding reserve
reserve-struck [] c d s h = omega arith
reserve-struck (l ∷ ls) c d s h = omega (arith, h l.address, reserve-struck ls c d s h)

-- a change of mark, lease and age, which the other tests do not see
abbrev pub change : (Holding → Bool) → (Holding → ℕ) → (Holding → ℕ) → Holding → Holding
change mark lease age h =
    record {
      established = mark h;
      address = h.address;
      port = h.port;
      number = h.number;
      lease = lease h;
      age = age h;
      qtype = h.qtype;
      qclass = h.qclass;
      name = h.name;
    }

module _ (n : ℕ) (ls : List Line) (differ : (a : ℕ) → count ls (λ l. eqb l.address a) ≤ 1) (mark : Holding → Bool) (lease age : Holding → ℕ)
    (q : Holding → Bool) (l m : List Holding)
    (e : (p : Holding → Bool) → count m p ≡ count l (λ h. q (change mark lease age h) && p (change mark lease age h)))
    (s : HoldingFacts n ls (count l)) where
  fewer : (p : Holding → Bool) → ((h : Holding) → p (change mark lease age h) ≡ true → p h ≡ true) → count m p ≤ count l p
  fewer p i =
      omega (
        arith,
        e p,
        count-mono l (λ h. q (change mark lease age h) && p (change mark lease age h)) p
            (λ h t. i h (and_right (q (change mark lease age h)) (p (change mark lease age h)) t)),
      )

  struck : List Holding
  struck = keep (λ h. not (q (change mark lease age h))) l

  parts : (p : Holding → Bool) → ((h : Holding) → p (change mark lease age h) ≡ p h) → count l p ≡ count m p + count struck p
  unfolding struck
  parts p i =
      omega (
        arith,
        e p,
        count-split (λ h. q (change mark lease age h)) l p,
        count-keep (λ h. q (change mark lease age h)) l p,
        ap (count l) (fun_ext (λ (h : Holding). ap (λ (b : Bool). q (change mark lease age h) && b) (i h))),
      )

  pub strike-facts : count m (λ h. not (valid_lease h)) ≡ 0 → count m (λ h. not (live h)) ≡ 0 → HoldingFacts n ls (count m)
  strike-facts ok_lease ok_age =
      record {
        non_zero = omega (arith, s.non_zero, fewer (λ h. not (non_zero_number h)) (λ h t. t));
        numbers = λ x. omega (arith, s.numbers x, fewer (numbered x) (λ h t. t));
        leases = ok_lease;
        ages = ok_age;
        names = omega (arith, s.names, fewer (λ h. not (valid_name h)) (λ h t. t));
        questions = λ k. omega (arith, s.questions k, fewer (same_question k) (λ h t. t));
        limits = λ a. omega (arith, s.limits a, fewer (held_by a) (λ h t. t));
        reserved = omega (
          arith,
          s.reserved,
          parts any (λ h. refl),
          count-any struck,
          reserve-struck ls (count l) (count m) struck (λ a. parts (held_by a) (λ h. refl)),
          total-le (λ (h : Holding). h.address) (addresses ls) (λ z. rw (hits-listed ls z) (differ z)) struck,
        );
      }

-- GRANTING ONE

reserve-grows : (ls : List Line) (c d : Counts) → ((a : ℕ) → c (held_by a) ≤ d (held_by a)) → reserve ls d ≤ reserve ls c
unfolding reserve
reserve-grows [] c d h = omega arith
reserve-grows (l ∷ ls) c d h = omega (arith, h l.address, reserve-grows ls c d h)

-- a grant within the share takes one from the reserve
reserve-share : (ls : List Line) (c d : Counts) (a : ℕ) → ((z : ℕ) → d (held_by z) ≡ c (held_by z) + bit (eqb a z)) → c (held_by a) < share_of ls a
    → suc (reserve ls d) ≤ reserve ls c
unfolding reserve share_of
reserve-share [] c d a h i = absurd (omega arith)
reserve-share (l ∷ ls) c d a h i = go (eqb l.address a) refl (reserve-share ls c d a h) i
  where
    go : (b : Bool) → eqb l.address a ≡ b → (c (held_by a) < share_of ls a → suc (reserve ls d) ≤ reserve ls c)
        → c (held_by a) < cond b l.share (share_of ls a)
        → suc ((l.share - d (held_by l.address)) + reserve ls d) ≤ (l.share - c (held_by l.address)) + reserve ls c
    go true t ih i =
        omega (
          arith,
          h l.address,
          ap bit (eqb-sym a l.address ∙ t),
          ap (λ (z : ℕ). c (held_by z)) (eqb-true l.address a t),
          reserve-grows ls c d (λ z. omega (arith, h z)),
        )
    go false t ih i = omega (arith, h l.address, ap bit (eqb-sym a l.address ∙ t), ih i)

module _ (n : ℕ) (ls : List Line) (l m : List Holding) (x : Holding) (e : (p : Holding → Bool) → count m p ≡ count l p + bit (p x))
    (s : HoldingFacts n ls (count l)) (number : x.number ≢ 0) (unused : count l (numbered x.number) ≡ 0) (new : count l (same_question x) ≡ 0)
    (room : full n ls (count l) x.address ≡ false) (lease : valid_lease x ≡ true) (age : live x ≡ true) (name : valid_name x ≡ true) where
  under-limit : count l (held_by x.address) < limit_of ls x.address
  unfolding full
  under-limit =
      leb-false (limit_of ls x.address) (count l (held_by x.address))
      (or_left (leb (limit_of ls x.address) (count l (held_by x.address)))
      (leb (share_of ls x.address) (count l (held_by x.address)) && leb (n - count l any) (reserve ls (count l))) room)

  in-reserve : suc (reserve ls (count m) + count l any) ≤ n
  unfolding full
  in-reserve =
      go (leb (share_of ls x.address) (count l (held_by x.address))) refl
      (or_right (leb (limit_of ls x.address) (count l (held_by x.address)))
      (leb (share_of ls x.address) (count l (held_by x.address)) && leb (n - count l any) (reserve ls (count l))) room)
    where
      go : (b : Bool) → leb (share_of ls x.address) (count l (held_by x.address)) ≡ b → b && leb (n - count l any) (reserve ls (count l)) ≡ false
          → suc (reserve ls (count m) + count l any) ≤ n
      go true t f =
          omega (
            arith,
            leb-false (n - count l any) (reserve ls (count l)) f,
            reserve-grows ls (count l) (count m) (λ z. omega (arith, e (held_by z))),
          )
      go false t f =
          omega (
            arith,
            s.reserved,
            reserve-share ls (count l) (count m) x.address (λ z. e (held_by z))
                (leb-false (share_of ls x.address) (count l (held_by x.address)) t),
          )

  numbers-ok : (y : ℕ) (b : Bool) → eqb x.number y ≡ b → count m (numbered y) ≤ 1
  numbers-ok y true t = omega (arith, e (numbered y), bit_le (eqb x.number y), unused, ap (λ (z : ℕ). count l (numbered z)) (eqb-true x.number y t))
  numbers-ok y false t = omega (arith, e (numbered y), ap bit t, s.numbers y)

  questions-ok : (k : Holding) (b : Bool) → same_question k x ≡ b → count m (same_question k) ≤ 1
  questions-ok k true t =
      omega (
        arith,
        e (same_question k),
        bit_le (same_question k x),
        new,
        count-mono l (same_question k) (same_question x) (λ h i. same-question-via k x h t i),
      )
  questions-ok k false t = omega (arith, e (same_question k), ap bit t, s.questions k)

  limits-ok : (b : ℕ) (t : Bool) → eqb x.address b ≡ t → count m (held_by b) ≤ limit_of ls b
  limits-ok b true t =
      omega (
        arith,
        e (held_by b),
        ap bit t,
        under-limit,
        ap (λ (z : ℕ). count l (held_by z)) (eqb-true x.address b t),
        ap (limit_of ls) (eqb-true x.address b t),
      )
  limits-ok b false t = omega (arith, e (held_by b), ap bit t, s.limits b)

  pub grant-facts : HoldingFacts n ls (count m)
  grant-facts =
      record {
        non_zero = omega (arith, s.non_zero, e (λ h. not (non_zero_number h)), ap (λ (b : Bool). bit (not (not b))) (ne_eqb x.number 0 number));
        numbers = λ y. numbers-ok y (eqb x.number y) refl;
        leases = omega (arith, s.leases, e (λ h. not (valid_lease h)), ap (λ (b : Bool). bit (not b)) lease);
        ages = omega (arith, s.ages, e (λ h. not (live h)), ap (λ (b : Bool). bit (not b)) age);
        names = omega (arith, s.names, e (λ h. not (valid_name h)), ap (λ (b : Bool). bit (not b)) name);
        questions = λ k. questions-ok k (same_question k x) refl;
        limits = λ b. limits-ok b (eqb x.address b) refl;
        reserved = omega (arith, in-reserve, e any);
      }
