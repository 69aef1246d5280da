-- What a port was asked for, and how it answered (defined by this project).
use Rattle.std.specs.Prelude.{◌≡◌, ◌≢◌, ℕ, Bool, true, false, List, [], ◌∷◌, ◌++◌, map, take, drop}
use Rattle.fuse_session.specs.declared.port.Received.{Received as Receipt}
use Rattle.fuse_session.specs.declared.port.Received.TheVariants.{Got, End, Failed as ReceiveFailed}
use Rattle.fuse_session.specs.declared.port.Sent.{Sent}
use Rattle.fuse_session.specs.declared.port.Sent.TheVariants.{Took, Gone, Failed}
use Rattle.fuse_session.specs.Port.{PortState, Receives, Sends, SentPart}

-- one call: a receive with its result and the bytes that came, or a send with its slice and its result
pub data PortEvent : Type 0 where
  Received : Receipt → List ℕ → PortEvent
  Handed : List ℕ → Sent → PortEvent

-- the bytes that came with this result into a buffer
abbrev pub bytes_got : Receipt → List ℕ → List ℕ
bytes_got (Got n) buffer = take n buffer
bytes_got End buffer = []
bytes_got ReceiveFailed buffer = []

-- a call of `receive`, by its result and the buffer after it
abbrev pub one_receive : Receipt → List ℕ → List PortEvent
one_receive result buffer = Received result (bytes_got result buffer) ∷ []

-- a call of `send`, by its slice and its result
abbrev pub one_send : List ℕ → Sent → List PortEvent
one_send slice result = Handed slice result ∷ []

-- a receive with this result gave these bytes, in some buffer
pub record GotBytes (old new : PortState) (result : Receipt) (bytes : List ℕ) : Type 0 where
  pub buffer : List ℕ
  pub came : bytes ≡ bytes_got result buffer
  pub receives : Receives old new result buffer

-- the state after one call
abbrev pub Step : PortState → PortState → PortEvent → Type 0
Step old new (Received result bytes) = GotBytes old new result bytes
Step old new (Handed slice result) = Sends old new result slice

-- the state after several calls, one after the other
abbrev pub Steps : PortState → PortState → List PortEvent → Type 0
Steps old new [] = new ≡ old
Steps old new (e ∷ es) = (mid : PortState) × Step old mid e × Steps mid new es

-- all bytes that came, in order
abbrev pub came_with : PortEvent → List ℕ
came_with (Received result bytes) = bytes
came_with (Handed slice result) = []

abbrev pub received_in : List PortEvent → List ℕ
received_in [] = []
received_in (e ∷ es) = came_with e ++ received_in es

-- all slices that were handed over, in order, each with its result
abbrev pub handed_with : PortEvent → List (List ℕ × Sent)
handed_with (Received result bytes) = []
handed_with (Handed slice result) = (slice, result) ∷ []

abbrev pub handed_in : List PortEvent → List (List ℕ × Sent)
handed_in [] = []
handed_in (e ∷ es) = handed_with e ++ handed_in es

-- `became a b events`: b is what became of a by these calls
pub record IsTranscript {P : Type 0} (became : P → P → List PortEvent → Type 0) : Type 0 where
  pub none : (p : P) → became p p []
  pub onward : (a b c : P) (xs ys : List PortEvent) → became a b xs → became b c ys → became a c (xs ++ ys)

-- bytes came, where it is a receive: it reported neither an end nor a failure
abbrev pub Gave : PortEvent → Type 0
Gave (Received (Got n) bytes) = Unit {0}
Gave (Received End bytes) = ⊥
Gave (Received ReceiveFailed bytes) = ⊥
Gave (Handed slice result) = Unit {0}

-- what it became is the state after the calls
abbrev pub Tells : {P : Type 0} → (P → PortState) → (P → P → List PortEvent → Type 0) → Type 0
Tells told became = (a b : _) (events : List PortEvent) → became a b events → Steps (told a) (told b) events

-- ---- one answer

-- sends alone, one for each slice
abbrev pub sends_of : List (List ℕ × Sent) → List PortEvent
sends_of slices = map (λ h. Handed h.0 h.1) slices

-- what is left of a slice after this result
abbrev pub left_after : Sent → List ℕ → List ℕ
left_after (Took n) slice = drop n slice
left_after Gone slice = []
left_after Failed slice = slice

-- what is left of an answer after these slices
abbrev pub left_of : List ℕ → List (List ℕ × Sent) → List ℕ
left_of bytes [] = bytes
left_of bytes (h ∷ more) = left_of (left_after h.1 bytes) more

-- none follows a slice that failed, or of which nothing was taken
abbrev pub StopsAfter : Sent → List (List ℕ × Sent) → Type 0
StopsAfter (Took n) more = n ≡ 0 → more ≡ []
StopsAfter Gone more = more ≡ []
StopsAfter Failed more = more ≡ []

-- slices of one answer: each is what is left of it
abbrev pub RestsOf : List ℕ → List (List ℕ × Sent) → Type 0
RestsOf bytes [] = Unit {0}
RestsOf bytes (h ∷ more) = (bytes ≢ []) × (h.0 ≡ bytes) × StopsAfter h.1 more × RestsOf (left_after h.1 bytes) more

abbrev pub IsLeft : Bool → List ℕ → Type 0
IsLeft true left = left ≡ []
IsLeft false left = left ≢ []

-- an answer was handed over slice by slice, and nothing else happened: whole, or up to a slice that failed
pub record Hands (became : List PortEvent → Type 0) (bytes : List ℕ) (whole : Bool) : Type 0 where
  pub slices : List (List ℕ × Sent)
  pub calls : became (sends_of slices)
  pub rests : RestsOf bytes slices
  pub left : IsLeft whole (left_of bytes slices)

-- the port failed with a part of an answer sent: what it took of the slices, and maybe some of the one that failed
pub record SendsPart (became : List PortEvent → Type 0) (old new : PortState) (bytes : List ℕ) : Type 0 where
  pub sent : SentPart old new bytes
  pub hands : Hands became bytes false
  pub more : List ℕ
  pub untaken : left_of bytes hands.slices ≡ more ++ sent.rest
