-- The scenario of examples/two-nodes as events, and the screen that the rules of the trade give it, line by line.
use Rattle.std.specs.Prelude.{ℕ, List, [], ◌∷◌, ◌++◌, None, pos, codes}
use Rattle.sds_value.specs.declared.kind.Value.TheVariants as value
use Rattle.sds_value.specs.declared.row.DocRow.{DocRow}
use Rattle.sds_value.specs.declared.row.Event.TheVariants.{Insert}
use Rattle.sds_value.specs.declared.row.Field.TheVariants.{Text}
use Rattle.sds_value.specs.declared.row.Peer.{Peer}
use Rattle.sds_types.specs.declared.ack.Ack.{Ack}
use Rattle.sds_first_spec.specs.declared.event.WorldEvent.{WorldEvent}
use Rattle.sds_first_spec.specs.declared.event.WorldEvent.TheVariants.{Node, Open, Register, Write, Route, Push, Show}
use Rattle.sds_first_spec.specs.declared.row.LoadRow.{LoadRow}
use Rattle.sds_types.specs.declared.tx_row.TxRow.{TxRow}
use Rattle.sds_first_spec.specs.Acts.{Act}
use Rattle.sds_first_spec.specs.Acts.Act.{Wrote, Routed, Loaded, Acked}
use Rattle.sds_first_spec.specs.One.{paired}
use Rattle.sds_first_spec.specs.World.{Message, Reply, World}

abbrev pub corp : Peer
corp = record { id = codes "corp"; group = codes "corp"; external = codes "corp" }

abbrev pub store : Peer
store = record { id = codes "s1"; group = codes "store"; external = codes "001" }

abbrev pub pair_row : List ℕ → List ℕ → TxRow
pair_row id text = record { event = Insert; table = codes "pair"; fields = Text id ∷ (Text text ∷ []) }

abbrev pub first_rows : List TxRow
first_rows = pair_row (codes "2") (codes "Ink") ∷ (pair_row (codes "1") (codes "Pen") ∷ [])

abbrev pub second_rows : List TxRow
second_rows = pair_row (codes "1") (codes "Cap") ∷ []

abbrev pub two_nodes : List WorldEvent
two_nodes =
    Node corp
    ∷ (Node store
    ∷ (Open (codes "corp") (codes "store") (codes "001")
    ∷ (Register (codes "s1") (codes "corp")
    ∷ (Write (codes "corp") (codes "office") 1 first_rows
    ∷ (Route (codes "corp")
    ∷ (Push (codes "corp") (codes "s1")
    ∷ (Show (codes "s1")
    ∷ (Write (codes "corp") (codes "office") 2 second_rows
    ∷ (Push (codes "corp") (codes "s1") ∷ [])))))))))

abbrev pub two_nodes_screen : List ℕ
two_nodes_screen =
    codes "open corp store 001: ok\n"
    ++ (codes "register s1 corp: ok\n"
    ++ (codes "write corp office 1: done 1 2\n"
    ++ (codes "route corp: 1 batches\n"
    ++ (codes "send 1 corp s1: 1 batches\ndeliver 1: reply 1 batch-1=ok\nanswer 1: 1 changed\n"
    ++ (codes "table pair\n\"1\",\"Pen\"\n\"2\",\"Ink\"\n"
    ++ (codes "write corp office 2: refused 1 7\n"
    ++ codes "send 2 corp s1: 0 batches\n"))))))

-- what the scenario leaves: corp's write, its batch as the store took it and as the message carried it, and the ack that corp heard
abbrev pub wrote : Act
wrote = Wrote (codes "office") 1 first_rows

abbrev pub load : ℕ → ℕ → List ℕ → LoadRow
load n id text = record {
  row = n;
  table = 0;
  event = Insert;
  key = record { 0 = value.Integer (pos id) ∷ [] };
  columns = 0 ∷ (1 ∷ []);
  new = value.Integer (pos id) ∷ (value.Text text ∷ []);
  old = None;
}

abbrev pub taken : Act
taken = Loaded (codes "corp") 0 1 (load 1 2 (codes "Ink") ∷ (load 2 1 (codes "Pen") ∷ []))

abbrev pub ok : ℕ → Ack
ok batch = record { batch = batch; error = None }

abbrev pub heard : Act
heard = Acked (codes "s1") (ok 1 ∷ [])

-- a row as a document has it
abbrev pub doc : List ℕ → List ℕ → DocRow
doc id text = record {
  event = Insert;
  table = codes "pair";
  keys = codes "id" ∷ [];
  columns = codes "id" ∷ (codes "text" ∷ []);
  new = Text id ∷ (Text text ∷ []);
  key = [];
  old = None;
}

-- the message of the first batch, its reply, and the world in which both came
abbrev pub message : Message
message = record {
  sender = codes "corp";
  receiver = codes "s1";
  parts = record { channel = 0; start = 0; batches = record { id = 1; rows = doc (codes "2") (codes "Ink") ∷ (doc (codes "1") (codes "Pen") ∷ []) } ∷ [] } ∷ [];
}

abbrev pub reply : Reply
reply = record { receiver = codes "s1"; sender = codes "corp"; acks = ok 1 ∷ [] }

abbrev pub answered : World
answered = record {
  nodes = record { opening = paired corp store; acts = heard ∷ (Routed ∷ (wrote ∷ [])) } ∷ (record { opening = paired store corp; acts = taken ∷ [] } ∷ []);
  messages = message ∷ [];
  replies = reply ∷ [];
}
