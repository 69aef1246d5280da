use Rattle.guest_talk.proofs.notes.note_request.Given as goal

abbrev pub ghost-note_all : goal.ghost-note_all
ghost-note_all g a = g.more
