-- Names for all the definitions that a computation runs through: to unfold reading is to unfold every definition that reads a text, to unfold replying every
-- definition that makes a reply of it, to unfold showing every one that makes a page, and to unfold replaying every one that takes steps. Assumes nothing.
use mathlib.Core.Bool.{Bool}
use mathlib.Core.List.{List}
use Prim.Native.Nat.{ℕ}
use Prim.Native.String.{String}
use Rattle.numbers.specs.Lists.{tabulate, padded}
use Rattle.stack.specs.Stack as stacks
use Rattle.stack.specs.Stack.{Stack}
use Rattle.stack.specs.Lengths.{lengths, greatest_position, last_position}
use Rattle.limits.specs.Limits as limits
use Rattle.spans.specs.Spans as spans
use Rattle.spans.specs.Solver as solver
use Rattle.arrays.specs.Arrays.{limits_from}
use Rattle.answer.specs.Solve as solve
use Rattle.rows.specs.Walk as walk
use Rattle.lines.specs.Lines as lines
use Rattle.text.specs.Text as texts
use Rattle.writing.specs.TableText as table_texts
use Rattle.trial.specs.Legal.{all_zero, is_legal}
use Rattle.routing.specs.Paths as paths
use Rattle.routing.specs.Wiring as wiring
use Rattle.page.specs.Page as page
use Rattle.reply.specs.Refusals.{narrow_refusal, channel_refusal, broad_refusal, asked_refusal}
use Rattle.spread.specs.Answers.{spread_refusal}
use Rattle.steps.specs.Steps as step_Lines
use Rattle.session.specs.Session as session
use Rattle.replay.specs.Replay as replay
use Rattle.nabetsu.specs.Pages.{page_refusal}
use Rattle.evidence.specs.Replies.{TotalReply, total_is, total_for, total_reply, steps_total_reply, PlacementReply, placement, is_met, if_met, placement_for, placement_reply, steps_placement_reply, TableReply, writes, refuses, if_fits, table_for, table_reply, page_for, page_reply}
use Rattle.evidence.specs.Specimens.{byte_shown, line_shown, text_shown, dotted, page_shown}

unfoldable pub reading : List String → Stack
unfolding byte_shown line_shown text_shown stacks.pair stacks.stack
    lines.line lines.to_front lines.lines lines.no_line lines.line_at lines.into_field lines.fields lines.word_of lines.number_fields lines.same_bytes
    lines.has_word lines.is_digit lines.all_digits lines.is_number lines.ill_formed lines.value_of lines.value lines.values lines.numbers_of tabulate
    texts.refusal texts.fine texts.or_else texts.stack_word texts.part_word texts.nets_word texts.gap_word texts.entry texts.first_of texts.second_of texts.third_of texts.fault_at texts.kind
    texts.exactly texts.one_or_three texts.in_pairs texts.misplaced texts.count_refusal texts.number_refusal texts.layout texts.stack_content texts.part_content texts.terminals_refusal
    texts.nets_content texts.gap_content texts.stack_kind texts.part_kind texts.nets_kind texts.gap_kind texts.check texts.supplied texts.line_check texts.k_of texts.head_refusal texts.head_check texts.part_check texts.length_at
    texts.nets_check texts.tail_at texts.tail_count texts.channel_before texts.tail_check texts.checks texts.in_turn texts.text_refusal texts.file
    texts.file_in texts.pairs_of texts.floor_in texts.window_in texts.strip_in texts.stack_in_file texts.stack_in
reading t = texts.stack_in (text_shown t)

unfoldable pub replying : List ℕ → (s v space : ℕ) → (ts xs : List ℕ) → TotalReply × PlacementReply × TableReply × Bool
unfolding stacks.p_at stacks.q_at stacks.every stacks.left_good stacks.right_good stacks.wirable stacks.edge_clear stacks.feasible stacks.in_window stacks.stands stacks.in_spread stacks.channels_good stacks.legal
    stacks.sum stacks.greatest_of stacks.least_position stacks.first_spread stacks.row stacks.total
    limits.low_term limits.high_term limits.greatest limits.least limits.low_limit limits.high_limit limits.from_floor limits.low_floored limits.high_floored spans.last spans.low_at spans.high_at
    spans.gather solver.first solver.first_open solver.most solver.cell solver.back solver.first_total solver.least_total solver.serves
    solver.first_serving solver.forward solver.separations solver.fixed solver.positions_on solver.lowest solver.positions limits_from
    solve.window_span solve.channel_limits solve.stack_levels solve.bottom solve.levels_of solve.total_with solve.separations_with solve.positions_with
    solve.answer_total solve.separations_for solve.positions_for walk.row_at walk.rows_walk lengths greatest_position last_position walk.widest walk.rows_of
    table_texts.digits_from table_texts.digits table_texts.tabbed table_texts.row_text table_texts.rows_text table_texts.table_text
    padded narrow_refusal spread_refusal all_zero is_legal total_is total_for total_reply placement is_met if_met placement_for placement_reply writes refuses if_fits table_for table_reply
replying bs s v n ts xs = (total_reply bs s, placement_reply bs s v, table_reply bs n, is_legal (texts.stack_in bs) s (padded 8 ts) (padded 9 xs))

unfoldable pub showing : List ℕ → (s channel space : ℕ) → List String → TableReply × List ℕ
unfolding dotted page_shown tabulate paths.point paths.next paths.same_column paths.same_point paths.on_path
    wiring.count wiring.right_test wiring.left_test wiring.right_track wiring.left_track wiring.riser wiring.rest wiring.staircase wiring.path_between
    wiring.path wiring.raised wiring.with_step_below wiring.drawn_path wiring.listed wiring.wiring wiring.begins wiring.leads page.on_some page.steps_between page.joined page.before page.arm_left page.arm_right
    page.arm_up page.arm_down page.how_many page.arms_character page.character page.in_three page.line_of page.track_line page.page_text
    page.channel_paths page.channel_page channel_refusal broad_refusal asked_refusal page_refusal page_for page_reply
showing bs s c n p = (page_reply bs s c n, page_shown p)

unfoldable pub replaying : List ℕ → (s v : ℕ) → TotalReply × PlacementReply
unfolding step_Lines.begin_word step_Lines.add_word step_Lines.off_word step_Lines.length_kind step_Lines.list_kind step_Lines.is_line step_Lines.word_line step_Lines.length_in step_Lines.step_line
    session.nothing session.room_refusal session.top_length session.length_refusal session.nets_refusal session.step_refusal session.taken session.left session.after session.session_refusal
    replay.state replay.start replay.stepped replay.told replay.line_taken replay.replay replay.replayed replay.steps_refusal steps_total_reply steps_placement_reply
replaying bs s v = (steps_total_reply bs s, steps_placement_reply bs s v)
