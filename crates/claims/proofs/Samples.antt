-- The samples and the pins hold of the model, by computing. Assumes nothing.
use mathlib.Core.Path.{refl}
use Rattle.model.specs.Clock.{ten_bit, thirteen_bit, cycle_of, step, advance}
use Rattle.model.specs.Query.{question}
use Rattle.model.specs.Meets.{model}
use Rattle.claims.specs.Samples.{Samples, by_tally, ClockSamples, step_by_tally, WideSamples, SpanSamples, NameSamples}
use Rattle.claims.specs.SoundSamples.{SoundSamples}
use Rattle.claims.specs.Pins.{Pinned}
use Rattle.claims.proofs.Definitions.{model-definitions, all-definitions}

pub samples-hold : Samples
unfolding model-definitions
samples-hold = (refl, (refl, (refl, (refl, (refl, (refl, (refl, (refl, (refl, (refl, (refl, (refl, (refl, (refl, tt))))))))))))))

pub clock-samples-hold : ClockSamples (advance (cycle_of ten_bit)) × ClockSamples (by_tally 619315200)
unfolding all-definitions
clock-samples-hold = (
  (refl, (refl, (refl, (refl, (refl, (refl, (refl, (refl, (refl, (refl, (refl, (refl, (refl, tt))))))))))))),
  (refl, (refl, (refl, (refl, (refl, (refl, (refl, (refl, (refl, (refl, (refl, (refl, (refl, tt))))))))))))),
)

pub wide-samples-hold : WideSamples (step (cycle_of thirteen_bit)) (advance (cycle_of thirteen_bit)) × WideSamples (step_by_tally 4954521600) (by_tally 4954521600)
unfolding all-definitions
wide-samples-hold = (
  (refl, refl, (refl, refl, (refl, refl, (refl, refl, (refl, refl, (refl, refl, (refl, refl, (refl, refl, (refl, refl, (refl, refl, (refl, refl, tt))))))))))),
  (refl, refl, (refl, refl, (refl, refl, (refl, refl, (refl, refl, (refl, refl, (refl, refl, (refl, refl, (refl, refl, (refl, refl, (refl, refl, tt))))))))))),
)

pub span-samples-hold : SpanSamples
unfolding model-definitions
span-samples-hold =
    ((λ e. (refl, refl)), ((λ e. (refl, refl)), ((λ e. (refl, refl)), ((λ e. (refl, refl)), ((λ e. (refl, refl)), ((λ e. (refl, refl)), ((λ e. (refl, refl)), ((λ e. (refl, refl)), ((λ e. (refl, refl)), ((λ e. (refl, refl)), ((λ e. (refl, refl)), ((λ e. (refl, refl)), ((λ e. (refl, refl)), tt)))))))))))))

pub name-samples-hold : NameSamples question
unfolding model-definitions
name-samples-hold =
    (refl, refl, (refl, refl, (refl, refl, (refl, refl, (refl, refl, (refl, refl, (refl, refl, (refl, refl, (refl, refl, (refl, refl, (refl, refl, (refl, refl, (refl, refl, (refl, refl, (refl, refl, tt)))))))))))))))

pub sound-samples-hold : SoundSamples
unfolding model-definitions
sound-samples-hold =
    record {
      tables = (refl, (refl, (refl, (refl, (refl, (refl, (refl, (refl, (refl, (refl, (refl, (refl, (refl, (refl, (refl, (refl, (refl, (refl, (refl, (refl, (refl, (refl, (refl, (refl, (refl, (refl, (refl, (refl, (refl, (refl, (refl, (refl, (refl, (refl, (refl, (refl, (refl, (refl, (refl, (refl, (refl, (refl, (refl, (refl, (refl, (refl, (refl, (refl, (refl, tt)))))))))))))))))))))))))))))))))))))))))))))))));
      pending = (refl, (refl, (refl, (refl, (refl, (refl, (refl, (refl, (refl, (refl, (refl, (refl, (refl, (refl, (refl, (refl, (refl, (refl, (refl, (refl, (refl, (refl, (refl, (refl, (refl, (refl, tt))))))))))))))))))))))))));
      established = (refl, (refl, (refl, (refl, (refl, (refl, (refl, (refl, (refl, (refl, (refl, (refl, (refl, (refl, (refl, (refl, (refl, (refl, (refl, (refl, (refl, (refl, (refl, (refl, (refl, (refl, tt))))))))))))))))))))))))));
    }

pub pinned : Pinned model
unfolding model-definitions
pinned = record { size = refl; made = refl; listed = refl; challenged = refl; acknowledged = refl; renewed = refl; repeated = refl; answered_late = refl; too_short = refl; written = refl; read_back = refl; set_back = refl; wide_size = refl; wide_made = refl; wide_ticked = refl; wide_written = refl; wide_read_back = refl }
