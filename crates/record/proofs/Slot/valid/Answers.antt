-- `record::Slot::valid` meets its contract: reads become results, tests become constants. Assumes nothing.
use borrow.Author.Tests.{eq-eqb, ne_eqb, lt-ltb, le-ltb, le-leb, lt-leb}
use Rattle.model.specs.Table.{read_entry}
use Rattle.layout.specs.Held.{holding_at}
use Rattle.record.proofs.Slot.valid.Goals as goal

pub returns-then-number-eq0 : goal.returns-then-number-eq0
unfolding holding_at read_entry
returns-then-number-eq0 c = rw (← c.number-number.ensures, eq-eqb _ _ c.if-number-eq0.true)

pub returns-then-lease-lt60 : goal.returns-then-lease-lt60
unfolding holding_at read_entry
returns-then-lease-lt60 c = rw (← c.number-number.ensures, ne_eqb _ _ c.if-number-eq0.false, ← c.lease-lease.ensures, lt-leb _ _ c.if-lease-lt60.true)

pub returns-then-lease-gt7200 : goal.returns-then-lease-gt7200
unfolding holding_at read_entry
returns-then-lease-gt7200 c =
    rw (
      ← c.number-number.ensures,
      ne_eqb _ _ c.if-number-eq0.false,
      ← c.lease-lease.ensures,
      le-leb _ _ c.if-lease-lt60.false,
      lt-leb _ _ c.if-lease-gt7200.true,
    )

pub returns-then-age-lease : goal.returns-then-age-lease
unfolding holding_at read_entry
returns-then-age-lease c =
    rw (
      ← c.number-number.ensures,
      ne_eqb _ _ c.if-number-eq0.false,
      ← c.lease-lease.ensures,
      le-leb _ _ c.if-lease-lt60.false,
      le-leb _ _ c.if-lease-gt7200.false,
      ← c.stamp-stamp.ensures,
      ← c.age.ensures,
      le-ltb _ _ c.if-age-lease.true,
    )

pub returns : goal.returns
unfolding holding_at read_entry
returns c =
    rw (
      ← c.number-number.ensures,
      ne_eqb _ _ c.if-number-eq0.false,
      ← c.lease-lease.ensures,
      le-leb _ _ c.if-lease-lt60.false,
      le-leb _ _ c.if-lease-gt7200.false,
      ← c.stamp-stamp.ensures,
      ← c.age.ensures,
      lt-ltb _ _ c.if-age-lease.false,
      ← c.name_length.ensures,
      ← c.from.ensures,
    ) c.lower_name.ensures
