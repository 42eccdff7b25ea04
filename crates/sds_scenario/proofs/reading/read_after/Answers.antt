use Rattle.std.proofs.Common.{refl, sym, ◌∙◌, ◌≡◌, codes, option_map, arith}
use Rattle.std.proofs.lemmas.Grind.{common_steps}
use Rattle.std.specs.Str.{chars}
use Rattle.sds_value.specs.declared.row.Field.TheVariants.{Text}
use Rattle.sds_types.specs.declared.scenario.ScenarioLine.TheVariants.{Route, Answer, Wire, Show, Batches, Crash}
use Rattle.sds_scenario.specs.Counted.{one_name, one_number}
use Rattle.sds_scenario.proofs.Literals.{differs}
use Rattle.sds_scenario.proofs.WordLines as lines
use Rattle.sds_scenario.proofs.reading.read_after.Goals as goal

pub returns-in-node : goal.returns-in-node
returns-in-node c =
    c.read_node.ensures ∙ sym (lines.spelt c.args.word.now (codes "node") c.deref_mut.result.now c.args.fields.items refl c.in-node.is c.deref_mut.ensures.value ∙ lines.node_line c.deref_mut.result.now)

pub returns-in-open : goal.returns-in-open
returns-in-open c =
    c.read_open.ensures ∙ sym (lines.spelt c.args.word.now (codes "open") c.deref_mut-in-open.result.now c.args.fields.items refl c.in-open.is c.deref_mut-in-open.ensures.value ∙ lines.open_line c.deref_mut-in-open.result.now)

pub returns-in-register : goal.returns-in-register
returns-in-register c =
    c.read_register.ensures ∙ sym (lines.spelt c.args.word.now (codes "register") c.deref_mut-in-register.result.now c.args.fields.items refl c.in-register.is c.deref_mut-in-register.ensures.value ∙ lines.register_line c.deref_mut-in-register.result.now)

pub returns-in-write : goal.returns-in-write
returns-in-write c =
    c.read_write.ensures ∙ sym (lines.spelt c.args.word.now (codes "write") c.deref_mut-in-write.result.now c.args.fields.items refl c.in-write.is c.deref_mut-in-write.ensures.value ∙ lines.write_line c.deref_mut-in-write.result.now)

pub returns-in-insert : goal.returns-in-insert
returns-in-insert c =
    c.read_row.ensures (Text (codes "insert")) refl ∙ sym (lines.spelt c.args.word.now (codes "insert") c.args.fields.items c.args.fields.items refl c.in-insert.is refl ∙ lines.insert_line c.args.fields.items)

pub returns-in-update : goal.returns-in-update
returns-in-update c =
    c.read_row-in-update.ensures (Text (codes "update")) refl ∙ sym (lines.spelt c.args.word.now (codes "update") c.args.fields.items c.args.fields.items refl c.in-update.is refl ∙ lines.update_line c.args.fields.items)

pub returns-in-delete : goal.returns-in-delete
returns-in-delete c =
    c.read_row-in-delete.ensures (Text (codes "delete")) refl ∙ sym (lines.spelt c.args.word.now (codes "delete") c.args.fields.items c.args.fields.items refl c.in-delete.is refl ∙ lines.delete_line c.args.fields.items)

pub returns-in-end : goal.returns-in-end
returns-in-end c =
    c.read_end.ensures ∙ sym (lines.spelt c.args.word.now (codes "end") c.deref.result.now c.args.fields.items refl c.in-end.is c.deref.ensures.value ∙ lines.end_line c.deref.result.now)

pub returns-in-route : goal.returns-in-route
returns-in-route c =
    let said : c.map.result ≡ option_map (λ name. Route name) c.one_name.result = grind (arith, common_steps) in
    lines.said_after (λ name. Route name) one_name (codes "route") refl lines.route_line c.args.word.now c.deref_mut-in-route.result.now c.args.fields.items c.in-route.is c.deref_mut-in-route.ensures.value c.one_name.result c.map.result c.one_name.ensures said

pub returns-in-send : goal.returns-in-send
returns-in-send c =
    rw (lines.spelt c.args.word.now (codes "send") c.deref_mut-in-send.result.now c.args.fields.items refl c.in-send.is c.deref_mut-in-send.ensures.value ∙ lines.send_line c.deref_mut-in-send.result.now) c.read_send.ensures

pub returns-in-deliver : goal.returns-in-deliver
returns-in-deliver c =
    rw (lines.spelt c.args.word.now (codes "deliver") c.deref_mut-in-deliver.result.now c.args.fields.items refl c.in-deliver.is c.deref_mut-in-deliver.ensures.value ∙ lines.deliver_line c.deref_mut-in-deliver.result.now) c.read_deliver.ensures

pub returns-in-answer : goal.returns-in-answer
returns-in-answer c =
    let said : c.map-in-answer.result ≡ option_map (λ number. Answer number) c.one_number.result = grind (arith, common_steps) in
    lines.said_after (λ number. Answer number) one_number (codes "answer") refl lines.answer_line c.args.word.now c.deref-in-answer.result.now c.args.fields.items c.in-answer.is c.deref-in-answer.ensures.value c.one_number.result c.map-in-answer.result c.one_number.ensures said

pub returns-in-push : goal.returns-in-push
returns-in-push c =
    c.read_push.ensures ∙ sym (lines.spelt c.args.word.now (codes "push") c.deref_mut-in-push.result.now c.args.fields.items refl c.in-push.is c.deref_mut-in-push.ensures.value ∙ lines.push_line c.deref_mut-in-push.result.now)

pub returns-in-pull : goal.returns-in-pull
returns-in-pull c =
    c.read_pull.ensures ∙ sym (lines.spelt c.args.word.now (codes "pull") c.deref_mut-in-pull.result.now c.args.fields.items refl c.in-pull.is c.deref_mut-in-pull.ensures.value ∙ lines.pull_line c.deref_mut-in-pull.result.now)

pub returns-in-wire : goal.returns-in-wire
returns-in-wire c =
    let said : c.map-in-wire.result ≡ option_map (λ number. Wire number) c.one_number-in-wire.result = grind (arith, common_steps) in
    lines.said_after (λ number. Wire number) one_number (codes "wire") refl lines.wire_line c.args.word.now c.deref-in-wire.result.now c.args.fields.items c.in-wire.is c.deref-in-wire.ensures.value c.one_number-in-wire.result c.map-in-wire.result c.one_number-in-wire.ensures said

pub returns-in-show : goal.returns-in-show
returns-in-show c =
    let said : c.map-in-show.result ≡ option_map (λ name. Show name) c.one_name-in-show.result = grind (arith, common_steps) in
    lines.said_after (λ name. Show name) one_name (codes "show") refl lines.show_line c.args.word.now c.deref_mut-in-show.result.now c.args.fields.items c.in-show.is c.deref_mut-in-show.ensures.value c.one_name-in-show.result c.map-in-show.result c.one_name-in-show.ensures said

pub returns-in-batches : goal.returns-in-batches
returns-in-batches c =
    let said : c.map-in-batches.result ≡ option_map (λ name. Batches name) c.one_name-in-batches.result = grind (arith, common_steps) in
    lines.said_after (λ name. Batches name) one_name (codes "batches") refl lines.batches_line c.args.word.now c.deref_mut-in-batches.result.now c.args.fields.items c.in-batches.is c.deref_mut-in-batches.ensures.value c.one_name-in-batches.result c.map-in-batches.result c.one_name-in-batches.ensures said

pub returns-in-crash : goal.returns-in-crash
returns-in-crash c =
    let said : c.map-in-crash.result ≡ option_map (λ name. Crash name) c.one_name-in-crash.result = grind (arith, common_steps) in
    lines.said_after (λ name. Crash name) one_name (codes "crash") refl lines.crash_line c.args.word.now c.deref_mut-in-crash.result.now c.args.fields.items c.in-crash.is c.deref_mut-in-crash.ensures.value c.one_name-in-crash.result c.map-in-crash.result c.one_name-in-crash.ensures said

pub returns-in-fault : goal.returns-in-fault
returns-in-fault c =
    c.read_fault.ensures ∙ sym (lines.spelt c.args.word.now (codes "fault") c.deref_mut-in-fault.result.now c.args.fields.items refl c.in-fault.is c.deref_mut-in-fault.ensures.value ∙ lines.fault_line c.deref_mut-in-fault.result.now)

pub returns-in_default : goal.returns-in_default
returns-in_default c = sym (lines.other_line (chars c.args.word.now) (record {
  not_node = differs c.args.word.now (codes "node") c.utf8.word refl c.in_default.not-node;
  not_open = differs c.args.word.now (codes "open") c.utf8.word refl c.in_default.not-open;
  not_register = differs c.args.word.now (codes "register") c.utf8.word refl c.in_default.not-register;
  not_write = differs c.args.word.now (codes "write") c.utf8.word refl c.in_default.not-write;
  not_insert = differs c.args.word.now (codes "insert") c.utf8.word refl c.in_default.not-insert;
  not_update = differs c.args.word.now (codes "update") c.utf8.word refl c.in_default.not-update;
  not_delete = differs c.args.word.now (codes "delete") c.utf8.word refl c.in_default.not-delete;
  not_end = differs c.args.word.now (codes "end") c.utf8.word refl c.in_default.not-end;
  not_route = differs c.args.word.now (codes "route") c.utf8.word refl c.in_default.not-route;
  not_send = differs c.args.word.now (codes "send") c.utf8.word refl c.in_default.not-send;
  not_deliver = differs c.args.word.now (codes "deliver") c.utf8.word refl c.in_default.not-deliver;
  not_answer = differs c.args.word.now (codes "answer") c.utf8.word refl c.in_default.not-answer;
  not_push = differs c.args.word.now (codes "push") c.utf8.word refl c.in_default.not-push;
  not_pull = differs c.args.word.now (codes "pull") c.utf8.word refl c.in_default.not-pull;
  not_wire = differs c.args.word.now (codes "wire") c.utf8.word refl c.in_default.not-wire;
  not_show = differs c.args.word.now (codes "show") c.utf8.word refl c.in_default.not-show;
  not_batches = differs c.args.word.now (codes "batches") c.utf8.word refl c.in_default.not-batches;
  not_crash = differs c.args.word.now (codes "crash") c.utf8.word refl c.in_default.not-crash;
  not_fault = differs c.args.word.now (codes "fault") c.utf8.word refl c.in_default.not-fault;
}) c.args.fields.items)
