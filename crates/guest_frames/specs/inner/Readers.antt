-- What the readers of parts and payloads return (defined by this project: the guest protocol, 'Faults').
use Rattle.std.specs.Prelude.{◌≡◌, ℕ, List, Result, Ok, Err}
use Rattle.std.specs.Borrow.{Bor}
use Rattle.guest_frames.specs.declared.fault.GuestFault.{GuestFault}

-- what a function returned, seen by `view`, is what reading gives
abbrev pub GivesRead : {X Y : Type 0} → (X → Y) → Result X GuestFault → Result Y GuestFault → Type 0
GivesRead view (Ok x) read = read ≡ Ok (view x)
GivesRead view (Err e) read = read ≡ Err e

-- a part, and the bytes after it
abbrev pub GivesPart : {X Y : Type 0} → (X → Y) → Result (X × Bor (List ℕ)) GuestFault → Result (Y × List ℕ) GuestFault → Type 0
GivesPart view (Ok x) read = read ≡ Ok (view x.0, x.1.now)
GivesPart view (Err e) read = read ≡ Err e
