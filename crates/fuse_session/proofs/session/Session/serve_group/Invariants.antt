use Rattle.fuse_session.proofs.session.Session.serve_group.Given as goal

abbrev pub ghost-gather : goal.ghost-gather
ghost-gather g a = g.service

abbrev pub ghost-perform_group : goal.ghost-perform_group
ghost-perform_group g a = g.service

abbrev pub ghost-send_answers : goal.ghost-send_answers
ghost-send_answers g a = g.service

abbrev pub ghost-count_all : goal.ghost-count_all
ghost-count_all g a = g.service
