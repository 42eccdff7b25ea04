-- What holds of a game that plays the lines of a text as the text comes.
use Rattle.std.specs.Prelude.{◌≡◌, ℕ, Bool, true, is_some, List, [], ◌++◌, length, map, Option, None, Some, Result, Ok, Err}
use Rattle.sds_base.specs.declared.memory.NoMemory.{NoMemory}
use Rattle.sds_line.specs.declared.line.Line.{Line as TextLine}
use Rattle.sds_line.specs.Splitting.{Split, Fed, Follows, IsEnd}
use Rattle.sds_first_spec.specs.One.{one}
use Rattle.sds_first_spec.specs.Screen.{screen_of}
use Rattle.sds_first_spec.specs.World.{empty_world}
use Rattle.sds_first_world.specs.declared.game.Game.{Game}
use Rattle.sds_first_world.specs.declared.line.Line.{Line}
use Rattle.sds_first_world.specs.declared.rehearsal.BadLine.{BadLine}
use Rattle.sds_first_world.specs.Played.{said, world_of, events_from, refusal_from}
use Rattle.sds_first_world.specs.Shapes.{Behind}

-- a reader that was fed some text, some lines of which were taken
pub record Reads (reader : Fed) : Type 0 where
  pub text : List ℕ
  pub taken : List TextLine
  pub finished : Bool
  pub follows : Follows text taken finished reader

-- what is split of a front of a text is a front of what is split of the whole, which is all of it where it is refused
pub record IsFront (front whole : Split) : Type 0 where
  pub rest : List TextLine
  pub lines : whole.lines ≡ front.lines ++ rest
  pub refused : is_some front.stop ≡ true → whole ≡ front

-- the game has played these lines of a text, and goes on
pub record Goes (is_over : Bool) (whole : Split) (taken : List TextLine) (game : Game) : Type 0 where
  pub rest : List TextLine
  pub lines : whole.lines ≡ taken ++ rest
  pub older : List Line
  pub count : length older ≡ length taken
  pub behind : Behind older game.place game.stage
  pub shown : game.screen.items ++ screen_of one (world_of older) (events_from game.is_built older (map said rest))
      ≡ screen_of one empty_world (events_from game.is_built [] (map said whole.lines))
  pub refused : refusal_from game.is_built is_over whole older rest ≡ refusal_from game.is_built is_over whole [] whole.lines

-- the game has played all that may stand of a text, and this is the first line that may not
pub record Ends (is_over : Bool) (whole : Split) (game : Game) (bad : Option BadLine) : Type 0 where
  pub shown : game.screen.items ≡ screen_of one empty_world (events_from game.is_built [] (map said whole.lines))
  pub refused : bad ≡ refusal_from game.is_built is_over whole [] whole.lines

-- the game has played all lines of a text so far, and goes on
pub record GoesOn (is_over : Bool) (whole : Split) (text : List ℕ) (finished : Bool) (game : Game) (reader : Fed) : Type 0 where
  pub taken : List TextLine
  pub follows : Follows text taken finished reader
  pub all : IsEnd text taken finished None
  pub goes : Goes is_over whole taken game

-- what is answered where a game plays the lines of a text
abbrev pub Plays : Bool → Split → List ℕ → Bool → Result (Option BadLine) NoMemory → Game → Fed → Type 0
Plays is_over whole text finished (Ok None) game reader = GoesOn is_over whole text finished game reader
Plays is_over whole text finished (Ok (Some bad)) game reader = Ends is_over whole game (Some bad)
Plays is_over whole text finished (Err memory) game reader = Unit {0}
