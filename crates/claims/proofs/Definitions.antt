-- The definitions that samples and wrong servers compute with, by the file that holds them. To unfold one of these names is to unfold what its
-- line names, so a proof says one name for all of them. Assumes nothing.
use Rattle.model.specs.Lists.{every, no_two, same, up_to, flat, keep, index_of}
use Rattle.model.specs.Numbers.{encode, bytes_of, big_endian, part}
use Rattle.model.specs.Names.{fold, name_size, lower_name}
use Rattle.model.specs.Clock.{step, brought, advance}
use Rattle.model.specs.Query.{good_header, name_at, good_question, question_at, question_start, good_questions, good_option, option_at, options_fill, options_from, good_opt, llq_options, llq_at, matched}
use Rattle.model.specs.Table.{table_bytes, clock_bytes, roster_bytes, line_bytes, unused_line, slot_bytes, layout_of, read_table, read_slot, read_entry, read_line, listed}
use Rattle.model.specs.Rules.{entries_of, limit_of, share_of, reserve, shares, full, fresh_number}
use Rattle.model.specs.Sound.{sound_table, sound_roster, sound_holdings, sound_bytes}
use Rattle.model.specs.Serve.{slot_run_out, moved_on, has, find_entry, kind_of_option, on_setup, serve_setup, on_response, serve_response, on_refresh, serve_refresh, serve_kind}
use Rattle.model.specs.Reply.{header_bytes, opt_bytes, option_bytes, reply_bytes, reply_options}
use Rattle.model.specs.Calls.{refusal, table_length, good_roster, make_refusal, fresh_table, make, tick_refusal, freed_by, tick, serve_refusal, table_before, outcome_of, table_after, outcomes, serve}
use Rattle.claims.specs.Tally.{move_tally, held_in, line_of, reserve_in, is_full, number_used, first_unused, option_tally, option_outcome, tally_before, judged, tally_after}
use Rattle.claims.specs.Impostors.{table_with}

list-definitions : Type 0
unfolding every no_two same up_to flat keep index_of
list-definitions = Unit {0}

number-definitions : Type 0
unfolding encode bytes_of big_endian part
number-definitions = Unit {0}

name-definitions : Type 0
unfolding fold name_size lower_name
name-definitions = Unit {0}

clock-definitions : Type 0
unfolding step brought advance
clock-definitions = Unit {0}

query-definitions : Type 0
unfolding good_header name_at good_question question_at question_start good_questions good_option option_at options_fill options_from good_opt llq_options llq_at matched
query-definitions = Unit {0}

table-definitions : Type 0
unfolding table_bytes clock_bytes roster_bytes line_bytes unused_line slot_bytes layout_of read_table read_slot read_entry read_line listed
table-definitions = Unit {0}

rule-definitions : Type 0
unfolding entries_of limit_of share_of reserve shares full fresh_number
rule-definitions = Unit {0}

sound-definitions : Type 0
unfolding sound_table sound_roster sound_holdings sound_bytes
sound-definitions = Unit {0}

serve-definitions : Type 0
unfolding slot_run_out moved_on has find_entry kind_of_option on_setup serve_setup on_response serve_response on_refresh serve_refresh serve_kind
serve-definitions = Unit {0}

reply-definitions : Type 0
unfolding header_bytes opt_bytes option_bytes reply_bytes reply_options
reply-definitions = Unit {0}

call-definitions : Type 0
unfolding refusal table_length good_roster make_refusal fresh_table make tick_refusal freed_by tick serve_refusal table_before outcome_of table_after outcomes serve
call-definitions = Unit {0}

-- THE MODEL'S
unfoldable pub model-definitions : Type 0
unfolding list-definitions number-definitions name-definitions clock-definitions query-definitions table-definitions rule-definitions sound-definitions serve-definitions reply-definitions call-definitions
model-definitions = Unit {0}

tally-definitions : Type 0
unfolding move_tally held_in line_of reserve_in is_full number_used first_unused option_tally option_outcome tally_before judged tally_after
tally-definitions = Unit {0}

-- THE MODEL'S, THE TALLY'S AND THE WRONG SERVERS'
unfoldable pub all-definitions : Type 0
unfolding model-definitions tally-definitions table_with
all-definitions = Unit {0}
