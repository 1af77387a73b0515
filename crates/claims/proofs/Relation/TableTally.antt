-- A sound table as its own tally: so what is proved along tallies holds of tables alone. Assumes nothing.
use Prim.Native.Nat.{ℕ}
use native.Mathlib.Omega.{arith}
use mathlib.Core.Path.{◌≡◌, refl, sym, ap, ◌∙◌, subst}
use mathlib.Core.List.{List}
use Rattle.model.specs.Clock.{Weeks, ten_bit, thirteen_bit, cycle_of}
use Rattle.model.specs.Table.{Table, read_table, table_bytes}
use Rattle.model.specs.Sound.{Sound, Fits, SoundBytes}
use Rattle.model.proofs.RoundTrip.{table-back}
use Rattle.model.proofs.Meaning.{read-stored}
use Rattle.claims.specs.Tally.{Tally}
use Rattle.claims.specs.AnySound.{tally_of}
use Rattle.claims.proofs.Relation.{Related}

pub related-self : (t : Table) → Sound t → Fits t → Related t (tally_of t)
related-self t s f =
    record { cycle = refl; place = refl; running = refl; n = refl; roster = refl; entries = λ p. refl; sound = s; fits = f }

pub related-read : (b : List ℕ) → SoundBytes b → Related (read_table b) (tally_of (read_table b))
related-read b s =
    let e : s.table ≡ read_table b = sym (read-stored b s) in
    related-self (read_table b) (subst Sound e s.sound) (subst Fits e s.fits)

-- a table's cycle tells its layout, so two tables tied to tallies of one cycle are laid out alike
weeks-told : (v w : Weeks) → cycle_of v ≡ cycle_of w → v ≡ w
weeks-told ten_bit ten_bit e = refl
weeks-told ten_bit thirteen_bit e = absurd (omega arith)
weeks-told thirteen_bit ten_bit e = absurd (omega arith)
weeks-told thirteen_bit thirteen_bit e = refl

pub same_layout : (t u : Table) (y w : Tally) → Related t y → Related u w → w.cycle ≡ y.cycle → u.layout ≡ t.layout
same_layout t u y w r s e =
    ap (λ (k : Weeks). record { weeks = k }) (weeks-told u.layout.weeks t.layout.weeks (s.cycle ∙ e ∙ sym r.cycle))

-- a table tied to a tally is read back from its bytes
pub read_back : (t : Table) (y : Tally) → Related t y → read_table (table_bytes t) ≡ t
read_back t y r = table-back t r.sound.lines r.fits
