-- The answers of the readers of bodies: the content of a body (fuse.h), or its fault (defined by this project).
use Rattle.std.specs.Prelude.{ℕ, List, length, Result, Ok, Err}
use Rattle.fuse_answer.specs.declared.reply.ReplyBody.{ReplyBody}
use Rattle.fuse_answer.specs.declared.reply.BadAnswer.{BadAnswer}
use Rattle.fuse_answer.specs.declared.reply.BadAnswer.TheVariants.{BodyLength, BadDirent}
use Rattle.fuse_answer.specs.Replies.{Kind, kind_of, size_of, most_of, reply_content, HoldsBody, IsAtMost, IsOtherThan, IsNoListing, BodyFault}

-- the fault of a body of a kind
abbrev pub KindFault : Kind → List ℕ → BadAnswer → Type 0
KindFault kind b BodyLength = IsOtherThan (size_of kind) (length b)
KindFault kind b BadDirent = IsNoListing kind b
KindFault kind b _ = ⊥

-- a body of a kind is read, or its fault
abbrev pub ReadsReply : Kind → List ℕ → Result ReplyBody BadAnswer → Type 0
ReadsReply kind b (Ok r) = HoldsBody kind (reply_content r) b
ReadsReply kind b (Err m) = KindFault kind b m

-- the body of an answer is read, or its fault
abbrev pub ReadsAsked : ℕ → ℕ → List ℕ → Result ReplyBody BadAnswer → Type 0
ReadsAsked opcode size b (Ok r) = HoldsBody (kind_of opcode size) (reply_content r) b × IsAtMost (most_of opcode size) (length b)
ReadsAsked opcode size b (Err m) = BodyFault opcode size b m
