-- An answered making leaves a table related to the tally that it begins. Assumes nothing.
use Prim.Native.Nat.{ℕ, zero, suc, ◌+◌, ◌*◌, ◌≤◌, ◌<◌}
use native.Mathlib.Omega.{arith}
use mathlib.Core.Path.{◌≡◌, refl, sym, ap, ◌∙◌, subst}
use mathlib.Core.Bool.{not}
use mathlib.Core.List.{List, [], ◌∷◌}
use lib.ListN.{length, replicate, length-replicate, get_or-replicate}
use lib.Dec.{lit<}
use Rattle.model.specs.Lists.{count, any}
use Rattle.model.specs.Numbers.{Bytes}
use Rattle.model.specs.Clock.{Weeks}
use Rattle.model.specs.Table.{Line, free, read_line, layout_of, slots_in}
use Rattle.model.specs.Rules.{Holding, Counts, entries_of, holdings, held_by, numbered, limit_of, reserve, shares}
use Rattle.model.specs.Sound.{non_zero_number, valid_lease, live, valid_name, same_question, Sound, FitsSlot, Fits}
use Rattle.model.specs.Calls.{MakeCall, roster_count, roster_lines, fresh_table}
use Rattle.model.proofs.ListLaws.{length-up_to, get_or-up_to}
use Rattle.model.proofs.ClockLaws.{placed}
use Rattle.model.proofs.Facts.{roster-facts}
use Rattle.model.proofs.CallLaws.{length-facts, given-roster}
use Rattle.model.proofs.Meaning.{fits_line}
use Rattle.model.proofs.StepLaws.{cycle-fits}
use Rattle.claims.specs.Tally.{begin_tally}
use Rattle.claims.proofs.Relation.{Related}
use Rattle.claims.proofs.LengthLaws.{cycle-for, slots-for}
use Rattle.claims.proofs.AcceptedCalls.{MakeAccepted}
use Rattle.claims.proofs.RosterGiven.{lines-given}

-- NO ENTRIES

no-entries : (running n : ℕ) → entries_of running (replicate n free) ≡ []
unfolding entries_of
no-entries running zero = refl
no-entries running (suc n) = no-entries running n

abbrev none : List Holding
none = []

reserve-none : (ls : List Line) → reserve ls (count none) ≡ shares ls
unfolding reserve shares
reserve-none [] = refl
reserve-none (l ∷ ls) = omega (arith, reserve-none ls)

module _ (c : MakeCall) (size : ℕ) (p : MakeAccepted c size) where
  abbrev n : ℕ
  n = slots_in size

  abbrev w : Weeks
  w = (layout_of size).weeks

  fresh-none : holdings (fresh_table c size) ≡ []
  unfolding fresh_table
  fresh-none = no-entries 0 n

  -- what holds of the count of no holdings holds of the table's
  of_none : (P : Counts → Type 0) → P (count none) → P (count (holdings (fresh_table c size)))
  of_none P p = subst (λ (l : List Holding). P (count l)) (sym fresh-none) p

  fresh-sound : Sound (fresh_table c size)
  unfolding fresh_table
  fresh-sound =
      let ls = roster_lines c.roster in
      let z = length-facts size p.room in
      let g = given-roster n c.roster p.roster in
      let f = roster-facts n ls g.sound in
      let size : length (replicate n free) ≡ n = length-replicate n free in
      record {
        place = placed w c.week c.second p.reading;
        slots_min = omega (arith, z.slots_min);
        slots_max = omega (arith, z.slots_max);
        lines = omega (arith, length-up_to (roster_count c.roster) (λ i. read_line c.roster (19 * i)), g.few);
        listed_once = f.listed_once;
        valid_lines = f.valid_lines;
        share_sum = omega (arith, f.share_sum);
        non_zero = of_none (λ (k : Counts). k (λ h. not (non_zero_number h)) ≡ 0) refl;
        numbers = λ x. of_none (λ (k : Counts). k (numbered x) ≤ 1) (omega arith);
        leases = of_none (λ (k : Counts). k (λ h. not (valid_lease h)) ≡ 0) refl;
        ages = of_none (λ (k : Counts). k (λ h. not (live h)) ≡ 0) refl;
        names = of_none (λ (k : Counts). k (λ h. not (valid_name h)) ≡ 0) refl;
        questions = λ x. of_none (λ (k : Counts). k (same_question x) ≤ 1) (omega arith);
        limits = λ a. of_none (λ (k : Counts). k (held_by a) ≤ limit_of ls a) (omega arith);
        reserved = of_none (λ (k : Counts). reserve ls k + k any ≤ length (replicate n free)) (omega (arith, reserve-none ls, f.share_sum));
      }

  fresh-fits : Bytes c.roster → Fits (fresh_table c size)
  unfolding fresh_table
  fresh-fits b =
      record {
        place = omega (arith, placed w c.week c.second p.reading, cycle-fits w);
        running = lit< tt;
        lines = λ i l.
            let h : i < roster_count c.roster = omega (arith, length-up_to (roster_count c.roster) (λ i. read_line c.roster (19 * i))) in
            rw (get_or-up_to (roster_count c.roster) (λ i. read_line c.roster (19 * i)) i (record { address = 0; share = 0; limit = 0 }) h)
            (fits_line c.roster b (19 * i));
        slots = λ i l.
            let h : i < n = omega (arith, length-replicate n free) in
            subst FitsSlot (sym (get_or-replicate n i free free h)) tt;
      }

pub fresh-related : (c : MakeCall) (size : ℕ) → MakeAccepted c size → Bytes c.roster → Related (fresh_table c size) (begin_tally size c)
unfolding fresh_table
fresh-related c size p b =
    record {
      cycle = cycle-for size;
      place = refl;
      running = refl;
      n = length-replicate (slots_in size) free ∙ slots-for size;
      roster = lines-given c.roster;
      entries = λ q. ap (λ (l : List Holding). count l q) (fresh-none c size p);
      sound = fresh-sound c size p;
      fits = fresh-fits c size p b;
    }
