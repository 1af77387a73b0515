-- The claims, all proved of the model's server. Assumes nothing.
use Rattle.model.specs.Clock.{ten_bit, thirteen_bit, cycle_of, step, advance}
use Rattle.model.specs.Names.{compared}
use Rattle.model.specs.Query.{question}
use Rattle.model.specs.Meets.{Server, model}
use Rattle.claims.specs.Refusals.{Refusals}
use Rattle.claims.specs.Changes.{Changes}
use Rattle.claims.specs.Others.{KeepsOthers}
use Rattle.claims.specs.Established.{EstablishedExactly}
use Rattle.claims.specs.Tick.{Ticking}
use Rattle.claims.specs.Demand3.{Demand3}
use Rattle.claims.specs.Samples.{Samples, by_tally, ClockSamples, step_by_tally, WideSamples, SpanSamples, NameSamples, FoldSettled}
use Rattle.claims.specs.SoundSamples.{SoundSamples}
use Rattle.claims.specs.Pins.{Pinned}
use Rattle.claims.specs.Reply.{ReplyClaim}
use Rattle.claims.specs.Reading.{ReadsQueries}
use Rattle.claims.specs.AnySound.{AnySound}
use Rattle.claims.specs.LiveAge.{LiveAge}
use Rattle.claims.specs.GrantedNumbers.{GrantedNumbers}
use Rattle.claims.specs.Repeats.{SetupRepeats, SetupTwice, ToldLeases}
use Rattle.claims.specs.StoredNames.{StoredNames}
use Rattle.claims.specs.SoundRules.{SoundExactly}
use Rattle.claims.specs.NumbersInBytes.{NumbersInBytes}
use Rattle.claims.specs.TableLayout.{TableLayout}
use Rattle.claims.specs.OneSlot.{OneSlot}
use Rattle.claims.specs.CallContracts.{CallsExactly, ContractsExactly}
use Rattle.claims.specs.Impostors.{Refuted, OwnPlaces}
use Rattle.claims.specs.Steps.{Steps}
use Rattle.claims.specs.Ages.{Ages}
use Rattle.claims.specs.Resumes.{Resumes}
use Rattle.claims.specs.Comparing.{Compares, ComparesSettled, ComparisonsRefuted, ClausesIndependent, CompareSamples}
use Rattle.claims.proofs.Refusals.{refusals}
use Rattle.claims.proofs.Changes.{changes}
use Rattle.claims.proofs.Others.{keeps-others}
use Rattle.claims.proofs.Established.{established-exactly}
use Rattle.claims.proofs.Tick.{ticking}
use Rattle.claims.proofs.Demand3.{demand3}
use Rattle.claims.proofs.Samples.{samples-hold, clock-samples-hold, wide-samples-hold, span-samples-hold, name-samples-hold, sound-samples-hold, pinned}
use Rattle.claims.proofs.FoldSettled.{fold-settled}
use Rattle.claims.proofs.Reply.{reply-claim}
use Rattle.claims.proofs.Reading.{reads-queries}
use Rattle.claims.proofs.AnySound.{any-sound}
use Rattle.claims.proofs.LiveAge.{live-age}
use Rattle.claims.proofs.GrantedNumbers.{granted-numbers}
use Rattle.claims.proofs.Repeats.{setup-repeats, setup-twice}
use Rattle.claims.proofs.ToldLeases.{told-leases}
use Rattle.claims.proofs.StoredNames.{stored-names}
use Rattle.claims.proofs.SoundRules.{sound-exactly}
use Rattle.claims.proofs.NumbersInBytes.{numbers-in-bytes}
use Rattle.claims.proofs.TableLayout.{table-layout}
use Rattle.claims.proofs.OneSlot.{one-slot}
use Rattle.claims.proofs.Contracts.{calls-exactly, contracts-exactly}
use Rattle.claims.proofs.Impostors.{refuted}
use Rattle.claims.proofs.OwnPlaces.{own-places}
use Rattle.claims.proofs.Steps.{steps}
use Rattle.claims.proofs.Ages.{ages-add}
use Rattle.claims.proofs.Resumes.{resumes}
use Rattle.claims.proofs.Comparing.{compares, compares-settled, comparisons-refuted, clauses-independent, compare-samples-hold}

pub record Claims (s : Server) : Type 0 where
  -- 1: each number is given exactly if its condition holds and none of a lower number; a refusal changes nothing
  pub refusals : Refusals s
  -- 2: what a datagram may change, option by option, and for a whole datagram: what is not the sender's stays
  pub changes : Changes s
  pub others : KeepsOthers s
  -- 3: a pending query is established exactly when it should be
  pub established : EstablishedExactly s
  -- 4: an answered tick moves the clock, frees run-out entries and reports how many
  pub ticking : Ticking s
  -- 5: demand 3, over every list of makings, datagrams and ticks on one table
  pub demand3 : Demand3 s
  -- 6: document 01's samples, W1 to W10, those of the clock moved, with weeks of ten bits and of thirteen, of a response's span and of names compared,
  -- which no other fold meets, and W11 with the table's bytes
  pub samples : Samples
  pub clock_samples : ClockSamples (advance (cycle_of ten_bit)) × ClockSamples (by_tally 619315200)
  pub wide_samples : WideSamples (step (cycle_of thirteen_bit)) (advance (cycle_of thirteen_bit)) × WideSamples (step_by_tally 4954521600) (by_tally 4954521600)
  pub span_samples : SpanSamples
  pub name_samples : NameSamples question
  pub fold_settled : FoldSettled
  pub pinned : Pinned s
  pub sound_samples : SoundSamples
  -- 7: an answered datagram's reply, place by place
  pub reply : ReplyClaim s
  -- 8: what a query holds, told by the datagram's bytes
  pub reading : ReadsQueries
  -- demand 3's facts from any sound table on
  pub any_sound : AnySound s
  -- a live entry's age is the sum of the forward steps since its stamp, by the calls alone
  pub live_age : LiveAge s
  -- a setup sent again gets its number and the life that remains
  pub setup_repeats : SetupRepeats
  pub setup_twice : SetupTwice
  -- a lease that was told stays a right response's while the entry keeps it
  pub told_leases : ToldLeases s
  -- the number granted is the first that is neither 0 nor in use
  pub numbers : GrantedNumbers
  -- a table is sound exactly by document 01's rules, told line by line and slot by slot
  pub sound : SoundExactly
  -- a stored name is a wire name of the list's length with no byte A to Z in its labels
  pub stored_names : StoredNames
  -- the step is the one integer of its range that is the places' difference and whole cycles, whatever even number of seconds the cycle has
  pub steps : Steps
  -- an age grows by a step as a whole number, in every even cycle half of which and the longest lease are together at most 2^32
  pub ages : Ages
  -- a clock that was set back runs on from there
  pub resumes : Resumes advance
  -- two names are compared lengths first, to the first pair that differs, and the pairs looked at are counted; nothing else meets that, six wrong
  -- comparisons break it, none of its clauses follows from the others; samples
  pub comparing : Compares compared
  pub compares_settled : ComparesSettled
  pub comparisons_refuted : ComparisonsRefuted
  pub clauses_independent : ClausesIndependent
  pub compare_samples : CompareSamples compared
  -- numbers are big endian, and lists of bytes are cut and joined as they say
  pub numbers_in_bytes : NumbersInBytes
  -- a table's bytes, place by place
  pub layout : TableLayout
  -- a slot written, and all else as it was
  pub slot : OneSlot
  -- a call's numbers and bytes are settled, and so are the public contracts
  pub calls : CallsExactly s
  pub contracts : ContractsExactly
  -- thirty wrong servers break a claim each
  pub refuted : Refuted
  -- one of them passes what `LiveAge` says by the places that a table holds
  pub own_places : OwnPlaces

pub claims : Claims model
claims =
    record {
      refusals = refusals;
      changes = changes;
      others = keeps-others;
      established = established-exactly;
      ticking = ticking;
      demand3 = demand3;
      samples = samples-hold;
      clock_samples = clock-samples-hold;
      wide_samples = wide-samples-hold;
      span_samples = span-samples-hold;
      name_samples = name-samples-hold;
      fold_settled = fold-settled;
      pinned = pinned;
      sound_samples = sound-samples-hold;
      reply = reply-claim;
      reading = reads-queries;
      any_sound = any-sound;
      live_age = live-age;
      setup_repeats = setup-repeats;
      setup_twice = setup-twice;
      told_leases = told-leases;
      numbers = granted-numbers;
      sound = sound-exactly;
      stored_names = stored-names;
      steps = steps;
      ages = ages-add;
      resumes = resumes;
      comparing = compares;
      compares_settled = compares-settled;
      comparisons_refuted = comparisons-refuted;
      clauses_independent = clauses-independent;
      compare_samples = compare-samples-hold;
      numbers_in_bytes = numbers-in-bytes;
      layout = table-layout;
      slot = one-slot;
      calls = calls-exactly model;
      contracts = contracts-exactly;
      refuted = refuted;
      own_places = own-places;
    }
