-- `sound::roster_sound` meets its contract: whole records, their kinds, the roster rules. Assumes nothing.
use Prim.Native.Nat.{◌*◌, ◌/◌, ◌≤◌}
use mathlib.Core.Path.{sym, ◌∙◌}
use native.Mathlib.Omega.{arith}
use borrow.Author.Tests.{eq-eqb, ne_eqb, le-leb}
use lib.ListN.{length}
use Rattle.model.specs.Calls.{good_roster}
use Rattle.layout.specs.Shape.{all}
use Rattle.sound.proofs.HolderLaws.{too_long}
use Rattle.sound.proofs.roster_sound.Goals as goal
use Rattle.sound.proofs.roster_sound.Goals.{then-r-gt-ROSTER-via-then-r-gt-ROSTER, then-r-gt-ROSTER-via-else-r-gt-ROSTER+then-r-ne0}

pub returns-then-r-gt-ROSTER : goal.returns-then-r-gt-ROSTER
unfolding good_roster
returns-then-r-gt-ROSTER c =
    elim c.then-r-gt-ROSTER.branch [
      | then-r-gt-ROSTER-via-then-r-gt-ROSTER w ↦ sym (too_long c.args.n c.args.r.now (omega arith))
      | then-r-gt-ROSTER-via-else-r-gt-ROSTER+then-r-ne0 w ↦ rw (ne_eqb (length c.args.r.now) (19 * (length c.args.r.now / 19)) (omega arith))
    ]

pub returns-then-all_listed : goal.returns-then-all_listed
unfolding good_roster all
returns-then-all_listed c =
    let r = c.args.r.now in
    let m : length r / 19 ≤ 16 = omega arith in
    rw (eq-eqb (length r) (19 * (length r / 19)) (omega arith), le-leb (length r / 19) 16 m, sym c.all_listed.ensures ∙ c.if-all_listed.true)
    c.sound.ensures

pub returns-else-all_listed : goal.returns-else-all_listed
unfolding good_roster all
returns-else-all_listed c =
    let r = c.args.r.now in
    let m : length r / 19 ≤ 16 = omega arith in
    rw (eq-eqb (length r) (19 * (length r / 19)) (omega arith), le-leb (length r / 19) 16 m, sym c.all_listed.ensures ∙ c.if-all_listed.false)
    c.if-all_listed.false
