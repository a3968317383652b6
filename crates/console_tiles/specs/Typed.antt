-- What a typed call about a tile or a layout leaves of the session: the call's own answer, and nothing where the line can't be read.
use Rattle.std.specs.Prelude.{cond, List, ℕ, get_or}
use Rattle.floor.specs.declared.Answer.{Answer}
use Rattle.floor.specs.declared.Floor.{Floor}
use Rattle.floor.specs.Calls.{stop_answer, repair_answer, keep_answer, recall_answer, forget_answer}
use Rattle.floor.specs.Layouts.{name_number}
use Rattle.console_words.specs.Text.{nth_word}
use Rattle.console_parse.specs.Line.{ends_by, arguments_of, read, name_in}
use Rattle.console_session.specs.declared.Session.{Session}
use Rattle.console_session.specs.Sessions.{after_call}

-- after an answer
abbrev pub after_answer : Session → Answer → Session
after_answer s a = after_call s a.refusal a.floor

-- a call with one number, the tile's
abbrev pub on_tile : (Floor → ℕ → Answer) → Session → List ℕ → Session
on_tile call s line = read (arguments_of line 1) (λ n. after_answer s (call s.floor (get_or n 0 0))) s

-- a call with a name
abbrev pub under_name : (Floor → ℕ → Answer) → Session → List ℕ → Session
under_name call s line = cond (ends_by 2 line) (after_answer s (call s.floor (name_number (name_in (nth_word 1 line))))) s

unfoldable pub stop_typed : Session → List ℕ → Session
stop_typed s line = on_tile stop_answer s line

unfoldable pub repair_typed : Session → List ℕ → Session
repair_typed s line = on_tile repair_answer s line

unfoldable pub keep_typed : Session → List ℕ → Session
keep_typed s line = under_name keep_answer s line

unfoldable pub recall_typed : Session → List ℕ → Session
recall_typed s line = under_name recall_answer s line

unfoldable pub forget_typed : Session → List ℕ → Session
forget_typed s line = under_name forget_answer s line
