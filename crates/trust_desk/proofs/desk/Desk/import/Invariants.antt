use Rattle.trust_desk.proofs.desk.Desk.import.Given as goal

abbrev pub ghosts-import_whole : goal.ghosts-import_whole
ghosts-import_whole g a = record { bytes = g.R.Read.remaining a.reader }
