-- The kinds of frames (defined by this project: the guest protocol, 'Frames').
use Rattle.std.specs.Prelude.{ℕ, ◌==◌, if◌then◌else◌, Option, Some, None}
use Rattle.guest_frames.specs.declared.guest_kind.GuestKind.{GuestKind}
use Rattle.guest_frames.specs.declared.guest_kind.GuestKind.TheVariants as kinds

abbrev pub hello_kind : ℕ
hello_kind = 1

abbrev pub ready_kind : ℕ
ready_kind = 2

abbrev pub request_kind : ℕ
request_kind = 3

abbrev pub get_kind : ℕ
get_kind = 4

abbrev pub values_kind : ℕ
values_kind = 5

abbrev pub scan_kind : ℕ
scan_kind = 6

abbrev pub pairs_kind : ℕ
pairs_kind = 7

abbrev pub answer_kind : ℕ
answer_kind = 8

-- of a guest's frame
abbrev pub kind_number : GuestKind → ℕ
kind_number kinds.Ready = ready_kind
kind_number kinds.Get = get_kind
kind_number kinds.Scan = scan_kind
kind_number kinds.Answer = answer_kind

abbrev pub guest_kind_of : ℕ → Option GuestKind
guest_kind_of n =
    if n == ready_kind then Some kinds.Ready
    else if n == get_kind then Some kinds.Get
    else if n == scan_kind then Some kinds.Scan
    else if n == answer_kind then Some kinds.Answer
    else None
