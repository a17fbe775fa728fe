-- The closed series, by computation: demand 3 speaks of uploads that there are.
use mathlib.Core.Path.{◌≡◌, refl}
use mathlib.Core.Bool.{Bool, true, ◌&&◌}
use Rattle.picks.specs.Pick.{pick, first, fold, every, count, keep}
use Rattle.octets.specs.Octets.{le, le_bytes, splice}
use Rattle.bench_card.specs.BenchCard.{same, sent_by, tick_sent_by, play, plays, uploads, value_from, on_empty, in_state, test, downloading, uploading, rows}
use Rattle.protocol.specs.Calls.{verdict, frame}
use Rattle.protocol.specs.Command.{flag_places, segmentation_of, known_ids, id_among, id_of, fixed_header, encode_command, decode_with, decode_id, decode_command}
use Rattle.protocol.specs.ConnectionRecord.{before_in, before_step, closed_step, opening_step, acknowledge, later_step, step_in, sequence_step, dispatch, upload_command, command_in, command_layer, settle, answered, empty_in, empty_frame, after_step, on_step, on_before, on_header, serve}
use Rattle.protocol.specs.ConnectionTable.{empty_table, ordered, areas_once, sound_upload, sound_download, sound_record, sound_table, place_of, update, insert, join, release, chosen, tick_upload, tick_in, tick_record}
use Rattle.protocol.specs.Constants.{PIECE, SHARE, RECORDS, AREA, ANSWER_MIN, REQUEST_MAX, FIRST_MAX, CLOCK_MAX, CAPACITY_MAX, IMAGE_MAX, TIMEOUT_INDEX, RETRIES_INDEX, DEFAULT_TIMEOUT, DEFAULT_RETRIES}
use Rattle.protocol.specs.DictionaryImage.{entry_at, entries_from, entries, sound_entries, sound_image, lookup_in, lookup, parameter_of, timeout_of, retries_of, writable, write_image}
use Rattle.protocol.specs.EveryUpload.{decodes, frames_of, spell}
use Rattle.examples.specs.Examples.{spelled_by, is_spelled, old, new, story, story_told, overwritten, story_overwrites, acknowledged, finishes, uploads as uploads-examples}
use Rattle.protocol.specs.Request.{request_tests, answer_with, request_served, accepted, on_verdict, request_of}
use Rattle.protocol.specs.SequenceHeader.{receive_mark_of, send_mark_of, encode_header, decode_header, next}
use Rattle.protocol.specs.Series.{held_command, sent_to, sent_tick, step, run}
use Rattle.protocol.specs.Tick.{tick_tests, tick_told, ticked, on_tick_verdict, tick_of}
use Rattle.protocol.specs.TransferRecord.{piece, deadline_after, advance, read_value, read_entry, read_by_index, write_entry, write_object, write_expedited, write_initiate, write_segment, write_complete, download_step, write_data, max_segment_size}

-- the overwritten object's upload spells the old value, the write in its middle changed the object, and uploads of 1,453, 2,904, 4,096 and 8,192 bytes finish
unfoldable pub examples : Bool
unfolding pick first fold every count keep le le_bytes splice same sent_by tick_sent_by play plays uploads value_from on_empty in_state test downloading uploading rows verdict frame flag_places segmentation_of known_ids id_among id_of fixed_header encode_command decode_with decode_id decode_command before_in before_step closed_step opening_step acknowledge later_step step_in sequence_step dispatch upload_command command_in command_layer settle answered empty_in empty_frame after_step on_step on_before on_header serve empty_table ordered areas_once sound_upload sound_download sound_record sound_table place_of update insert join release chosen tick_upload tick_in tick_record PIECE SHARE RECORDS AREA ANSWER_MIN REQUEST_MAX FIRST_MAX CLOCK_MAX CAPACITY_MAX IMAGE_MAX TIMEOUT_INDEX RETRIES_INDEX DEFAULT_TIMEOUT DEFAULT_RETRIES entry_at entries_from entries sound_entries sound_image lookup_in lookup parameter_of timeout_of retries_of writable write_image decodes frames_of spell spelled_by is_spelled old new story story_told overwritten story_overwrites acknowledged finishes uploads-examples request_tests answer_with request_served accepted on_verdict request_of receive_mark_of send_mark_of encode_header decode_header next held_command sent_to sent_tick step run tick_tests tick_told ticked on_tick_verdict tick_of piece deadline_after advance read_value read_entry read_by_index write_entry write_object write_expedited write_initiate write_segment write_complete download_step write_data max_segment_size
examples = story_told && story_overwrites && every finishes uploads-examples

pub examples_hold : examples ≡ true
unfolding examples
examples_hold = refl
