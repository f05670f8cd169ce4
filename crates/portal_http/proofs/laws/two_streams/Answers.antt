use Rattle.portal_http.proofs.Names.{map, runs-covered, each-own, same-by_rows_alone, same-for_the_matter, sound-runs-are-runs, heard_of, reply_bytes, ap}
use Rattle.trail_laws.specs.Dossier.{Dossier}
use Rattle.portal_http.proofs.laws.two_streams.Goals as goal

pub returns-clause-whole : goal.returns-clause-whole
returns-clause-whole call m d e f g f' g' xs ys ps qs x y rs ss same comes one two =
    let hs = map heard_of ps in
    let ks = map heard_of qs in
    let run = sound-runs-are-runs d f f' hs rs one.run in
    let other = sound-runs-are-runs e g g' ks ss two.run in
    let both = same-for_the_matter m d e f g hs ks rs ss f' g' same comes one.unstopped two.unstopped run other in
    let own = each-own m d f hs rs f' one.unstopped run in (
      record {
        answers = ap (map reply_bytes) both.0;
        own = ap (map reply_bytes) own.answers;
        rows = ap (λ (p : Dossier). p.rows) both.1;
        own_rows = own.rows;
        covered = runs-covered d f f' hs rs one.sound one.run;
        also_covered = runs-covered e g g' ks ss two.sound two.run;
      },
      both.1,
    )

pub returns-clause-rows : goal.returns-clause-rows
returns-clause-rows call m d e f g f' g' xs ys ps qs x y rs ss same comes none one two =
    let hs = map heard_of ps in
    let ks = map heard_of qs in
    let run = sound-runs-are-runs d f f' hs rs one.run in
    let other = sound-runs-are-runs e g g' ks ss two.run in
    let both = same-by_rows_alone m d e f g hs ks rs ss f' g' same comes none one.unstopped two.unstopped run other in
    let own = each-own m d f hs rs f' one.unstopped run in
    record {
      answers = ap (map reply_bytes) both.0;
      own = ap (map reply_bytes) own.answers;
      rows = both.1;
      own_rows = own.rows;
      covered = runs-covered d f f' hs rs one.sound one.run;
      also_covered = runs-covered e g g' ks ss two.sound two.run;
    }
