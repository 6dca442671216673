use Rattle.tests_paths.proofs.books.watched_anew.Goals as goal

pub watched-requires : goal.watched-requires
watched-requires g c = (c.in-Some.ensures c.in-Ok.book.pair c.in-Ok.ensures).1
