-- INIT (defined by this project): the new settings replace those of an earlier INIT.
use Rattle.std.specs.Prelude.{Some}
use Rattle.fuse_answer.specs.Bodies.{init_bytes}
use Rattle.fuse_init.specs.declared.negotiation.Negotiated.{Negotiated}
use Rattle.fuse_init.specs.declared.negotiation.Negotiated.TheVariants.{Agreed, Again, Refused}
use Rattle.fuse_tree.specs.State.{State}
use Rattle.fuse_tree.specs.Done.{Done, refuse, answer}

abbrev pub init : State → Negotiated → Done
init s (Agreed out settings) = answer (record s { settings = Some settings }) (init_bytes out)
init s (Again out) = answer s (init_bytes out)
init s (Refused errno) = refuse s errno
