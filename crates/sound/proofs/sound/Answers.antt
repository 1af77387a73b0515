-- `sound::sound` meets its contract: the length, the clock record, then lines and slots. Assumes nothing.
use Prim.Native.Nat.{ℕ, ◌+◌, ◌-◌, ◌<◌}
use mathlib.Core.Path.{◌≡◌, refl, sym, ap, ◌∙◌}
use mathlib.Core.Bool.{◌&&◌}
use mathlib.Core.List.{List}
use native.Mathlib.Omega.{arith}
use borrow.Author.Tests.{eq-eqb, ne_eqb, lt-ltb, le-ltb}
use lib.ListN.{length, get_or, take, drop}
use lib.Seq.{get_or-drop, drop-drop}
use lib.Dec.{eqb, ltb}
use mir.Val.{Fits}
use mir.Syntax.{w8}
use Rattle.model.specs.Numbers.{big_endian}
use Rattle.model.specs.Clock.{Clock, cycle_of}
use Rattle.model.specs.Table.{Layout, clock_kind, place_bytes, running_at, lines_at, base, layout_of}
use Rattle.model.specs.Sound.{sound_bytes}
use Rattle.layout.specs.Shape.{parts_shape}
use Rattle.layout.specs.Held.{rules_of}
use Rattle.model.proofs.ListLaws.{never}
use Rattle.model.proofs.CallLaws.{LengthFacts, length-facts}
use Rattle.layout.specs.declared.Layout.{Layout as LayoutOf}
use Rattle.layout.specs.Places.{LayoutFor}
use Rattle.layout.proofs.LengthLaws.{right-length}
use Rattle.layout.proofs.PartLaws.{tail-is}
use Rattle.layout.proofs.ReadLaws.{place_read, running-read}
use Rattle.layout.proofs.SoundLaws.{sound-is, not_sound}
use Rattle.sound.proofs.sound.Goals as goal

-- what is tested of bytes b of n slots behind the length
abbrev Tests : List ℕ → ℕ → Layout → Type 0
Tests b n l =
    sound_bytes b
    ≡ eqb (get_or b 0 0) (clock_kind l)
    && (ltb (big_endian b 1 (place_bytes l)) (cycle_of l.weeks)
    && (parts_shape (drop (lines_at l) b) (drop (base l) b) n && rules_of (big_endian b (running_at l) 4) (drop (lines_at l) b) (drop (base l) b) n))

-- what is left to test of bytes whose length is a table's
whole : (b : List ℕ) (l : LayoutOf) → ((i : ℕ) → Fits w8 (get_or b i 0)) → LayoutFor l (length b) → LengthFacts (length b) → Tests b l.n (layout_of (length b))
whole b l g p r = sound-is b (λ i. omega (arith, g i)) l.n (omega arith) (omega arith) (omega arith)

-- the bytes behind the first a are bytes too
tail-octets : (b : List ℕ) (a : ℕ) → ((i : ℕ) → get_or b i 0 < 256) → (i : ℕ) → get_or (take (length b - a) (drop a b)) i 0 < 256
tail-octets b a f i = rw (tail-is b {a = a} {k = a} refl, get_or-drop a b i 0) (f (a + i))

pub returns-then-not-table_length : goal.returns-then-not-table_length
returns-then-not-table_length c =
    let t = c.args.t.now in
    not_sound t (λ i. omega (arith, c.type_inv.t i))
    (λ e l h. never (right-length (length t) e l h) (sym c.table_length.ensures ∙ c.if-not-table_length.true))

pub bounds-t-0 : goal.bounds-t-0
bounds-t-0 c = let r = length-facts (length c.args.t.now) (sym c.table_length.ensures ∙ c.if-not-table_length.false) in omega arith

pub returns-then-t-clock_kind : goal.returns-then-t-clock_kind
returns-then-t-clock_kind c =
    let k = c.clock_kind.ensures ∙ ap clock_kind c.requires.0 in
    sym (whole c.args.t.now c.args.l c.type_inv.t c.requires (length-facts (length c.args.t.now) (sym c.table_length.ensures ∙ c.if-not-table_length.false)) ∙ rw (← k, ne_eqb _ _ c.if-t-clock_kind.true))

pub clock_at-c-requires : goal.clock_at-c-requires
clock_at-c-requires c =
    let r = length-facts (length c.args.t.now) (sym c.table_length.ensures ∙ c.if-not-table_length.false) in
    let p = c.requires in
    (p, omega arith)

pub returns-then-c-cycle : goal.returns-then-c-cycle
returns-then-c-cycle c =
    let k = c.clock_kind.ensures ∙ ap clock_kind c.requires.0 in
    let y = c.cycle.ensures ∙ ap (λ (l : Layout). cycle_of l.weeks) c.requires.0 in
    let q = ap (λ (x : Clock). x.place) c.clock_at-c.ensures ∙ place_read c.args.t.now in
    sym (whole c.args.t.now c.args.l c.type_inv.t c.requires (length-facts (length c.args.t.now) (sym c.table_length.ensures ∙ c.if-not-table_length.false)) ∙ rw (← k, eq-eqb _ _ c.if-t-clock_kind.false, ← y, ← q, le-ltb _ _ c.if-c-cycle.true))

pub slice_bounds-lines-count : goal.slice_bounds-lines-count
slice_bounds-lines-count c = let r = length-facts (length c.args.t.now) (sym c.table_length.ensures ∙ c.if-not-table_length.false) in omega (arith, c.requires)

pub slice_bounds-slots-count : goal.slice_bounds-slots-count
slice_bounds-slots-count c = let r = length-facts (length c.args.t.now) (sym c.table_length.ensures ∙ c.if-not-table_length.false) in omega (arith, c.requires)

pub parts_sound-requires : goal.parts_sound-requires
parts_sound-requires c =
    let r = length-facts (length c.args.t.now) (sym c.table_length.ensures ∙ c.if-not-table_length.false) in
    let p = c.requires in
    (omega arith, omega arith, tail-octets _ 304 (tail-octets c.args.t.now c.from.result (λ i. omega (arith, c.type_inv.t i))))

pub returns : goal.returns
returns c =
    let t = c.args.t.now in
    let k = c.clock_kind.ensures ∙ ap clock_kind c.requires.0 in
    let y = c.cycle.ensures ∙ ap (λ (l : Layout). cycle_of l.weeks) c.requires.0 in
    let e = c.clock_at-c.ensures in
    let q = ap (λ (x : Clock). x.place) e ∙ place_read t in
    let u = ap (λ (x : Clock). x.running) e ∙ running-read t in
    sym (whole c.args.t.now c.args.l c.type_inv.t c.requires (length-facts (length c.args.t.now) (sym c.table_length.ensures ∙ c.if-not-table_length.false))
    ∙ (rw (
      ← k,
      eq-eqb _ _ c.if-t-clock_kind.false,
      ← y,
      ← q,
      lt-ltb _ _ c.if-c-cycle.false,
      ← u,
    )
    (sym (rw (tail-is t (c.from.ensures ∙ c.requires.1), tail-is (drop (lines_at (layout_of (length t))) t) refl, drop-drop) at c.parts_sound.ensures))))

pub slice_bounds-lines-start : goal.slice_bounds-lines-start
slice_bounds-lines-start c =
    let r = length-facts (length c.args.t.now) (sym c.table_length.ensures ∙ c.if-not-table_length.false) in
    let p = c.requires in
    omega arith

pub slice_bounds-slots-start : goal.slice_bounds-slots-start
slice_bounds-slots-start c =
    let r = length-facts (length c.args.t.now) (sym c.table_length.ensures ∙ c.if-not-table_length.false) in
    let p = c.requires in
    omega arith
