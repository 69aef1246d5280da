-- Notices, which a server sends unasked (fuse.h: fuse_out_header, fuse_notify_code).
use Rattle.std.specs.Prelude.{ℕ, List}
use Rattle.fuse_wire.specs.Layout.{form}
use Rattle.fuse_answer.specs.Bodies.{out_head_parts}
use Rattle.fuse_answer.specs.Sizes.{out_header_size}

-- a header alone, with the code of the notice where an answer has its error, and no request's unique
abbrev pub notice_bytes : ℕ → List ℕ
notice_bytes code = form (out_head_parts out_header_size code 0)

-- FUSE_NOTIFY_RESEND: send the pending requests again
abbrev pub notify_resend : ℕ
notify_resend = 7

unfoldable pub resend_bytes : List ℕ
resend_bytes = notice_bytes notify_resend
