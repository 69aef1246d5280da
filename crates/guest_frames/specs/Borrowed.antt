-- What frames say that lie in a guest's bytes (defined by this project: the guest protocol, 'Frames').
use Rattle.std.specs.Prelude.{ℕ, zero, suc, List, [], ◌∷◌, Result}
use Rattle.std.specs.Option.{option_map_or}
use Rattle.std.specs.Result.{result_ok}
use Rattle.guest_frames.specs.declared.changes.Changes.{Changes}
use Rattle.guest_frames.specs.declared.fault.GuestFault.{GuestFault}
use Rattle.guest_frames.specs.declared.guest_frame.Answer.{Answer}
use Rattle.guest_frames.specs.declared.guest_frame.GuestFrame.{GuestFrame}
use Rattle.guest_frames.specs.declared.guest_frame.GuestFrame.TheVariants as frames
use Rattle.guest_frames.specs.declared.guest_frame.Scan.{Scan}
use Rattle.guest_frames.specs.declared.guest_kind.GuestKind.TheVariants as kinds
use Rattle.guest_frames.specs.declared.keys.Keys.{Keys}
use Rattle.guest_frames.specs.declared.pair_change.PairChange.{PairChange}
use Rattle.guest_frames.specs.declared.pair_change.PairChange.TheVariants as changes
use Rattle.guest_frames.specs.Frames.{ChangeContent, put, delete, clear, ScanContent, AnswerContent, Frame, of_ready, of_get, of_scan, of_answer}
use Rattle.guest_frames.specs.Reading.{key_first, change_first}

abbrev pub change_content : PairChange → ChangeContent
change_content (changes.Put key value) = put key.now value.now
change_content (changes.Delete key) = delete key.now
change_content (changes.Clear from to) = clear from.now to.now

-- the first items, at most n, as long as they are right
abbrev pub items_by : {A : Type 0} → (List ℕ → Result (A × List ℕ) GuestFault) → ℕ → List ℕ → List A
items_by read zero b = []
items_by read (suc n) b = option_map_or (λ x. x.0 ∷ items_by read n x.1) (result_ok (read b)) []

-- what iterators have left
unfoldable pub keys_left : Keys → List (List ℕ)
keys_left keys = items_by (key_first kinds.Get) keys.left keys.rest.now

unfoldable pub changes_left : Changes → List ChangeContent
changes_left changes = items_by change_first changes.left changes.rest.now

abbrev pub scan_content : Scan → ScanContent
scan_content s = record { limit = s.limit; keys_alone = s.keys_alone; downwards = s.downwards; from = s.from.now; to = s.to.now }

abbrev pub answer_content : Answer → AnswerContent
answer_content a = record { error = a.error; changes = changes_left a.changes; body = a.body.now }

abbrev pub guest_content : GuestFrame → Frame
guest_content (frames.Ready r) = of_ready r
guest_content (frames.Get keys) = of_get (keys_left keys)
guest_content (frames.Scan s) = of_scan (scan_content s)
guest_content (frames.Answer a) = of_answer (answer_content a)
