-- HELLO, and the opcodes that it names.
use Rattle.std.proofs.Common.{◌≡◌, ℕ, Option, refl, ap, sym, ◌∙◌}
use Rattle.fuse_init.specs.declared.settings.Settings.{Settings}
use Rattle.guest_frames.specs.declared.hello.Agreed.{Agreed}
use Rattle.guest_frames.specs.declared.hello.Hello.{Hello}
use Rattle.fuse_guest.specs.GuestModel.{agreed_with}
use Rattle.fuse_guest.specs.Service.{bits_below, handed_bits}
use Rattle.guest_talk.specs.Greeting.{hello_for}

pub handed_is : handed_bits ≡ 272732570255226
unfolding bits_below
handed_is = refl

abbrev pub hello : Option Agreed → ℕ → Hello
hello agreed opcodes = record { agreed = agreed; opcodes = opcodes }

pub hello_is : (agreed : Option Agreed) (settings : Option Settings) (pledged : ℕ) → agreed ≡ agreed_with pledged settings
    → hello agreed 272732570255226 ≡ hello_for settings pledged
hello_is agreed settings pledged same = ap (λ x. hello x 272732570255226) same ∙ ap (hello (agreed_with pledged settings)) (sym handed_is)
