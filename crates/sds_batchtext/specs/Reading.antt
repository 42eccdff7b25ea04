-- A document that comes in pieces: what a reader has read, and what it has given.
use Rattle.std.specs.Prelude.{◌≡◌, ℕ, Bool, true, false, List, [], ◌∷◌, ◌++◌, Option, None, Some, Result, Ok, Err}
use Rattle.sds_base.specs.declared.memory.NoMemory.{NoMemory}
use Rattle.sds_line.specs.Splitting.{Fed, Follows, left, lines_in}
use Rattle.sds_line.specs.declared.line.Line.{Line}
use Rattle.sds_types.specs.declared.document.BatchDoc.{BatchDoc}
use Rattle.sds_types.specs.declared.document.End.{End}
use Rattle.sds_batchtext.specs.declared.doc_line.DocLine.{DocLine}
use Rattle.sds_batchtext.specs.declared.position.Position.{Position}
use Rattle.sds_batchtext.specs.Documents.{said_in, batches_in, batches_of, broken_in, end_in}
use Rattle.sds_batchtext.specs.Judging.{lines_said, broken_line}
use Rattle.sds_batchtext.specs.Positions.{IsPositionAfter}

-- a reader: the lines that come, what is kept of those that were read, the batches that weren't
-- taken, the end where it is known, and whether out of memory has lost a part of the document
pub record ReaderState : Type 0 where
  pub lines : Fed
  pub position : Position
  pub ready : List BatchDoc
  pub ending : Option End
  pub is_spent : Bool

-- The reader was fed this text, in whatever pieces, these batches of it were taken, and its end is
-- known or not.
pub record HasRead (text : List ℕ) (taken : List BatchDoc) (finished : Bool) (reader : ReaderState) : Type 0 where
  pub whole : reader.is_spent ≡ false
  pub position : IsPositionAfter (said_in finished text) reader.position
  pub batches : taken ++ reader.ready ≡ batches_in finished text
  pub ending : reader.ending ≡ end_in finished text
  pub follows : reader.ending ≡ None
      → Follows text (lines_in finished text).lines finished reader.lines

-- What `take` answers, and what it leaves.
abbrev pub Takes : List ℕ → List BatchDoc → Bool → Result (Option BatchDoc) NoMemory → ReaderState
    → Type 0
Takes text taken finished (Ok (Some batch)) new = HasRead text (taken ++ batch ∷ []) finished new
Takes text taken finished (Ok None) new =
    (taken ≡ batches_in finished text) × HasRead text taken finished new
Takes text taken finished (Err memory) new = new.is_spent ≡ true

-- lines of some text, some of which were taken
pub record IsFed (lines : Fed) : Type 0 where
  pub text : List ℕ
  pub taken : List Line
  pub finished : Bool
  pub follows : Follows text taken finished lines

-- a reader that reads on has such lines
abbrev pub CanRead : Bool → Option End → Fed → Type 0
CanRead true ending lines = Unit {0}
CanRead false (Some ending) lines = Unit {0}
CanRead false None lines = IsFed lines

-- Some lines of a text were read, and those that are left give what is left.
pub record IsReading (text : List ℕ) (taken : List BatchDoc) (finished : Bool) (lines : Fed) (position : Position) (ready : List BatchDoc) : Type 0 where
  pub passed : List Line
  pub follows : Follows text passed finished lines
  pub older : List DocLine
  pub stands : IsPositionAfter older position
  pub said : said_in finished text ≡ lines_said older (left lines).lines
  pub broken : broken_line [] (lines_in finished text).lines ≡ broken_line older (left lines).lines
  pub batches : taken ++ ready ≡ batches_of older

-- All lines of a text were read, up to the first that may not stand.
pub record HasReadLines (text : List ℕ) (taken : List BatchDoc) (finished : Bool) (ending : Option End) (lines : Fed) (position : Position) (ready : List BatchDoc) : Type 0 where
  pub stands : IsPositionAfter (said_in finished text) position
  pub batches : taken ++ ready ≡ batches_in finished text
  pub ends : ending ≡ broken_in finished text
  pub follows : ending ≡ None → Follows text (lines_in finished text).lines finished lines
