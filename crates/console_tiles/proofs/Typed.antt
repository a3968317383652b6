-- A typed call with a tile's number, and one with a name: read, and not read.
use mathlib.Core.Path.{◌≡◌, sym}
use mathlib.Core.Bool.{Bool, true, false}
use mathlib.Core.List.{List}
use Prim.Native.Nat.{ℕ}
use lib.ListN.{get_or}
use Rattle.floor.specs.declared.Answer.{Answer}
use Rattle.floor.specs.declared.Floor.{Floor}
use Rattle.floor.specs.Layouts.{name_number}
use Rattle.console_words.specs.Text.{nth_word}
use Rattle.std.proofs.Common.{Option, None, Some}
use Rattle.console_parse.specs.Line.{ends_by, arguments_of, name_in}
use Rattle.console_session.specs.declared.Session.{Session}
use Rattle.console_tiles.specs.Typed.{after_answer, on_tile, under_name}

pub tile_unread : (call : Floor → ℕ → Answer) (s r : Session) (line : List ℕ) → None ≡ arguments_of line 1 → r ≡ s → r ≡ on_tile call s line
tile_unread call s r line e p = rw (sym e) p

pub tile_read : (call : Floor → ℕ → Answer) (s r : Session) (line n : List ℕ) (a : Answer) → Some n ≡ arguments_of line 1 → a ≡ call s.floor (get_or n 0 0) → r ≡ after_answer s a → r ≡ on_tile call s line
tile_read call s r line n a e q p = rw (sym e, sym q) p

pub name_unread : (call : Floor → ℕ → Answer) (s r : Session) (line : List ℕ) (b : Bool) → b ≡ ends_by 2 line → b ≡ false → r ≡ s → r ≡ under_name call s line
name_unread call s r line b e g p = rw (sym e, g) p

pub name_read : (call : Floor → ℕ → Answer) (s r : Session) (line letters : List ℕ) (b : Bool) (a : Answer) → b ≡ ends_by 2 line → b ≡ true → letters ≡ name_in (nth_word 1 line) → a ≡ call s.floor (name_number letters) → r ≡ after_answer s a → r ≡ under_name call s line
name_read call s r line letters b a e g l q p = rw (sym e, g, sym l, sym q) p
