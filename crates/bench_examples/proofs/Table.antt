-- The table of P1 to P11 holds, under one proof about the definitions.
use mathlib.Core.List.{map}
use mathlib.Core.Path.{◌≡◌, refl}
use Rattle.laws.specs.Loop.{iterate}
use Rattle.laws.specs.Bytes.{be16, be32, be32_bytes}
use Rattle.laws.specs.Store.{over}
use Rattle.colours.specs.Colours.{good_length, colours}
use Rattle.state.specs.State.{row_bytes, frame_bytes, frame_length, state_length, lent_length, step_length}
use Rattle.number.specs.Number.{read_number, groups, last_group, write_number, write_groups}
use Rattle.runs.specs.Runs.{kept, changed, runs_of, differ, differing, all_differ, patch}
use Rattle.record.specs.RunList.{run_bytes, runs_bytes, list_bytes, read_run, read_runs, read_list, runs_back, before_of}
use Rattle.record.specs.Record.{picture_bytes, map_bytes, record_bytes, past_of, restored}
use Rattle.iff.specs.Chunk.{chunk_at, chunks, find, contents}
use Rattle.form.specs.Form.{anim_end, next_form}
use Rattle.bmhd.specs.Header.{bitmap_header}
use Rattle.body.specs.ByteRun.{unpack_row, packet_at}
use Rattle.body.specs.Body.{body, rows_from, row_at, place, draw_rows}
use Rattle.anhd.specs.Anhd.{frame_header}
use Rattle.delta.specs.Reading.{byte_at}
use Rattle.delta.specs.Column.{skip_rows, fill, read_op, read_ops, read_column, read_columns}
use Rattle.delta.specs.Delta.{list_pointer, read_plane, read_planes, read_picture, read_delta, put, draw, read_frame, new_frame}
use Rattle.column_writer.specs.Column.{join, groups_of, join_uniq, stretch_ops, rest_of, uniqs, cut, cut_all, ops_of, column_ops, op_bytes, ops_bytes, column_bytes}
use Rattle.writer.specs.Write.{column_at, column_in, columns_bytes, planes_equal, plane_bytes, plane_pointer, pointers_bytes, lists_bytes, delta_bytes, written}
use Rattle.frame.specs.Frame.{frame_in, frame_at}
use Rattle.opening.specs.Open.{body_in, places_in, first_places, first_header, first_body, first_picture, first_map, first_of, opening}
use Rattle.state.specs.World.{is_odd, shown_in, hidden_in}
use Rattle.step_on.specs.Step.{ready, change, look, look_ahead, commit, settle, step_on}
use Rattle.bench_examples.specs.Film.{two_frames}
use Rattle.bench_examples.specs.Bench.{Example, table}

-- every example comes to what the paper says
pub bench : map (λ (x : Example). x.comes) table ≡ map (λ (x : Example). x.says) table
unfolding table two_frames iterate be16 be32 over good_length colours row_bytes frame_bytes frame_length state_length lent_length step_length read_number groups last_group write_number write_groups kept changed runs_of differ differing all_differ patch run_bytes runs_bytes list_bytes picture_bytes map_bytes record_bytes read_run read_runs read_list runs_back before_of past_of restored chunk_at chunks find anim_end next_form bitmap_header unpack_row packet_at body rows_from row_at place draw_rows frame_header byte_at skip_rows fill read_op read_ops read_column read_columns list_pointer read_plane read_planes read_picture read_delta put draw read_frame new_frame join groups_of join_uniq stretch_ops rest_of uniqs cut cut_all ops_of column_ops op_bytes ops_bytes column_bytes column_at column_in columns_bytes planes_equal plane_bytes be32_bytes plane_pointer pointers_bytes lists_bytes delta_bytes written contents frame_in frame_at body_in places_in first_places first_header first_body first_picture first_map first_of opening is_odd shown_in hidden_in ready change look look_ahead commit settle step_on
bench = refl
