-- `table::move_on` meets its contract: the clock moved, then, where the count moved, the slots swept. Assumes nothing.
use Rattle.std.proofs.Common.{◌≡◌, ℕ, ◌+◌, ◌-◌, ◌*◌, ◌^◌, ◌<◌, List, ◌++◌, map, length, take, drop, sym, ap, ◌∙◌, subst, arith, length-take, length-drop}
use Rattle.model.specs.Lists.{count, flat}
use Rattle.model.specs.Clock.{Clock, cycle_of, advance}
use Rattle.model.specs.Numbers.{Bytes, splice, encode}
use Rattle.model.specs.Table.{Layout, place_bytes, base, size_of, layout_of, cycle_in, read_table, slot_bytes}
use Rattle.model.specs.Serve.{slot_run_out, free_if_run_out, moved_on}
use Rattle.model.specs.Calls.{freed_by}
use Rattle.model.proofs.ClockLaws.{advance-place, advance-running}
use Rattle.model.proofs.TableLaws.{clock_fields}
use Rattle.model.proofs.Meaning.{layout-read, fits_read}
use Rattle.model.proofs.StepLaws.{cycle-fits}
use Rattle.layout.specs.Shape.{slots_to}
use Rattle.layout.specs.Weeks.{weeks_of}
use Rattle.layout.specs.Places.{layout_in, LayoutFor}
use Rattle.layout.specs.declared.Layout.{Layout as LayoutOf}
use Rattle.clock.specs.Clock.{clock_of}
use Rattle.clock.specs.declared.Clock.{Clock as ClockOf}
use Rattle.table.specs.Written.{WellFormed, FormedSlots, Written}
use Rattle.table.proofs.WriteLaws as law
use Rattle.table.proofs.SweepLaws as sweep
use Rattle.table.proofs.move_on.Goals as goal
use Rattle.table.proofs.move_on.Goals.{After-advanced-d}

-- a table of the bytes t, lent with the layout l and a place, its clock that was read, and the moved one
record Moving (t : List ℕ) (l : LayoutOf) (place : ℕ) (c d : ClockOf) : Type 0 where
  bytes : Bytes t
  formed : WellFormed t
  laid : LayoutFor l (length t)
  from : (read_table t).clock.place < cycle_of (weeks_of l.weeks)
  to : place < cycle_of (weeks_of l.weeks)
  read : clock_of c ≡ (read_table t).clock
  moved : clock_of d ≡ advance (cycle_of (weeks_of l.weeks)) (clock_of c) place

moving : (c : After-advanced-d) → Moving c.args.t.now c.args.l c.args.place c.clock_at-c.result c.advanced-d.result
moving c =
    record {
      bytes = λ j. grind arith;
      formed = c.requires.0;
      laid = c.requires.1;
      from = c.requires.2;
      to = c.requires.3;
      read = c.clock_at-c.ensures;
      moved = c.advanced-d.ensures;
    }

module _ {t : List ℕ} {l : LayoutOf} {place : ℕ} {c d : ClockOf} (m : Moving t l place c d) where
  sized : length t ≡ size_of (layout_of (length t)) l.n
  sized = law.formed-n t m.bytes m.formed _ m.laid.3

  moved_to : clock_of d ≡ advance (cycle_of (weeks_of l.weeks)) (read_table t).clock place
  moved_to = m.moved ∙ ap (λ (x : Clock). advance (cycle_of (weeks_of l.weeks)) x place) m.read

  -- the cycle is that of the table's weeks
  in-cycle : clock_of d ≡ advance (cycle_in (read_table t)) (read_table t).clock place
  in-cycle = moved_to ∙ ap (λ (y : ℕ). advance y (read_table t).clock place) (ap (λ (k : Layout). cycle_of k.weeks) (m.laid.0 ∙ sym (layout-read t)))

  on-cycle : d.place < cycle_of (weeks_of l.weeks)
  on-cycle = subst (λ (k : Clock). k.place < cycle_of (weeks_of l.weeks)) (sym moved_to) (advance-place (cycle_of (weeks_of l.weeks)) (read_table t).clock place m.from m.to)

  place-fits : d.place < 256 ^ place_bytes (layout_of (length t))
  place-fits =
      let o = on-cycle in
      let e = ap (λ (x : Layout). cycle_of x.weeks) m.laid.0 in
      omega (arith, cycle-fits (layout_of (length t)).weeks)

  running-fits : d.running < 256 ^ 4
  running-fits = subst (λ (k : Clock). k.running < 256 ^ 4) (sym moved_to) (advance-running (cycle_of (weeks_of l.weeks)) (read_table t).clock place (fits_read t m.bytes).running)

  -- the bytes x that `put_clock` wrote
  module _ {x : List ℕ} (e : x ≡ splice 1 (place_bytes (layout_in l) + 4) (encode (clock_fields (layout_in l) (clock_of d))) t) (k : length x ≡ length t) where
    by_layout : x ≡ splice 1 (place_bytes (layout_of (length t)) + 4) (encode (clock_fields (layout_of (length t)) (clock_of d))) t
    by_layout = e ∙ ap (λ (y : Layout). splice 1 (place_bytes y + 4) (encode (clock_fields y (clock_of d))) t) m.laid.0

    formed : WellFormed x
    formed = sweep.clock-formed t m.bytes m.formed (clock_of d) place-fits running-fits x by_layout

    size : length x ≡ size_of (layout_of (length x)) l.n
    size = rw k sized

    slots-start : l.slots_at ≡ base (layout_of (length x))
    slots-start = rw k m.laid.2

    -- the count stays, and none has run out
    unmoved : d.running ≡ c.running → count (read_table t).slots (slot_run_out (read_table t).clock.running) ≡ 0
        → Written x (moved_on (read_table t) place) × (0 ≡ freed_by (read_table t) place)
    unmoved same none =
        sweep.stays t m.bytes m.formed (clock_of d) place-fits running-fits x by_layout place in-cycle
        (subst (λ (r : ℕ). count (read_table t).slots (slot_run_out r) ≡ 0) (sym (same ∙ ap (λ (y : Clock). y.running) m.read)) none)

    room : l.slots_at + 320 * l.n ≡ length x
    room = let s = size in let a = slots-start in omega arith

    module _ (written-bytes : Bytes x) where
      lent : FormedSlots (take (length x - l.slots_at) (drop l.slots_at x)) l.n
      lent = law.lent-formed formed written-bytes l.n size slots-start

      -- the count moved, and the slots are swept
      swept : {ws : List ℕ} {n : ℕ}
          → (ws ≡ flat slot_bytes (map (free_if_run_out d.running) (slots_to (take (length x - l.slots_at) (drop l.slots_at x)) l.n)))
          × (n ≡ count (slots_to (take (length x - l.slots_at) (drop l.slots_at x)) l.n) (slot_run_out d.running))
          → Written (take l.slots_at x ++ (ws ++ drop (length x - l.slots_at) (drop l.slots_at x))) (moved_on (read_table t) place) × (n ≡ freed_by (read_table t) place)
      swept h =
          sweep.moved t m.bytes m.formed (clock_of d) place-fits running-fits x by_layout place in-cycle _ _
          (sweep.table-swept x written-bytes formed l.n d.running size (sweep.clock-running t m.bytes m.formed (clock_of d) place-fits running-fits x by_layout) _ _
          (sweep.lent-swept x l.n d.running slots-start h))

pub clock_at-c-requires : goal.clock_at-c-requires
clock_at-c-requires c =
    let bytes : Bytes c.args.t.now = λ j. grind arith in
    let n = law.formed-n c.args.t.now bytes c.requires.0 _ c.requires.1.3 in
    (c.requires.1, omega (arith, c.requires))

pub put_clock-requires : goal.put_clock-requires
put_clock-requires c =
    let m = moving (goal.at.put_clock-requires c).After-advanced-d in
    let n = sized m in
    (c.requires.1, omega (arith, c.requires), on-cycle m)

pub returns-then-d-c : goal.returns-then-d-c
returns-then-d-c c = unmoved (moving (goal.at.returns-then-d-c c).After-advanced-d) c.put_clock.ensures c.put_clock.auto.t c.if-d-c.true c.requires.4

pub slice_bounds-free_run_out-count : goal.slice_bounds-free_run_out-count
slice_bounds-free_run_out-count c =
    let r = room (moving (goal.at.slice_bounds-free_run_out-count c).After-advanced-d) c.put_clock.ensures c.put_clock.auto.t in
    omega arith

pub slice_bounds-free_run_out-start : goal.slice_bounds-free_run_out-start
slice_bounds-free_run_out-start c =
    let r = room (moving (goal.at.slice_bounds-free_run_out-start c).After-advanced-d) c.put_clock.ensures c.put_clock.auto.t in
    omega arith

pub free_run_out-requires : goal.free_run_out-requires
free_run_out-requires c =
    let m = moving (goal.at.free_run_out-requires c).After-advanced-d in
    let r = room m c.put_clock.ensures c.put_clock.auto.t in
    (simp (length-take, length-drop) (omega arith), lent m c.put_clock.ensures c.put_clock.auto.t (λ j. grind arith))

pub returns : goal.returns
returns c = swept (moving (goal.at.returns c).After-advanced-d) c.put_clock.ensures c.put_clock.auto.t (λ j. grind arith) c.free_run_out.ensures
