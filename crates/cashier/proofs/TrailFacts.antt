-- Each run keeps the trail, and so does what a crash leaves of it.
use Rattle.cashier.proofs.Names.{◌≡◌, ◌⊎◌, ◌∙◌, ℕ, Bool, true, false, suc, List, [], ◌∷◌, ◌++◌, Option, ap, length, inl, inr, map, subst, sym, Comes, Firm, Heard, IsMade, Known, MayLeave, Output, Ran, Reply, Seen, Steps, Text}
use Rattle.std.proofs.lemmas.List.{length-map, map-append}
use Rattle.std.specs.Prelude.{MatchBool}
use Rattle.firm_rows.specs.FirmSound.{FirmSound}
use Rattle.trust_desk.specs.Crashes.{AreNoFaultsButLast, IsMadeInRun}
use Rattle.desk_trail.proofs.KeptRuns.{sound-behind}
use Rattle.desk_trail.proofs.KeptTrails.{first-items_keep, items-keep_trails, onward, run-stops_keep_trails, runs-keep_trails, steps-keep_trails, stops-keep_trails, unchanged}
use Rattle.desk_trail.specs.KeptTrails.{KeepsTrail}
use Rattle.portal_http.specs.Clients.{Clients, clients_of}
use Rattle.portal_http.specs.declared.server.ClientEnd.{ClientEnd}
use Rattle.portal_http.specs.declared.server.ClientEnd.TheVariants as became
use Rattle.portal_http.specs.declared.stream.StreamEnd.{StreamEnd}
use Rattle.portal_http.specs.Served.{Served}
use Rattle.portal_http.specs.Requests.{heard_of}
use Rattle.cashier.specs.Calls.{LeavesSame, LeavesTrail}
use Rattle.cashier.specs.Crashes.{LeavesItems, LeavesRun, MeansGoingOn}
use Rattle.cashier.specs.Outcome.{FileEnds, MatchFileEnds}
use Rattle.cashier.specs.Serving.{AreMetInTurn, IsMet, PortEnds}
use Rattle.cashier.specs.Statement.{Large, Run, is_told_longer}
use Rattle.cashier.specs.Stream.{StreamEnds}
use Rattle.cashier.specs.Views.{File}
use Rattle.cashier.specs.declared.outcome.Outcome.{Outcome}

-- One step.

same-kept : (before after : Firm) → after ≡ before → KeepsTrail before after
same-kept before after same = subst (KeepsTrail before) (sym same) (unchanged before)

pub step-kept : (old : Seen) (day : ℕ) (new : Firm) (h : Heard) (reply : Reply) → old.stands
    → Steps day old.firm h reply new → KeepsTrail old.firm new
step-kept old day new h reply stands step = steps-keep_trails day old.firm new h reply (old.sound stands) step

pub made-left : {done : Type 0} (old new : Seen) (day : ℕ) (h : Heard) (after : Firm) → old.stands
    → MayLeave done (IsMade day old.firm h) old.firm after old new → LeavesTrail old new
made-left old new day h after stands may found left = elim (may.crash found left) [
  | inl before ↦ inl before
  | inr made ↦ inr (stops-keep_trails day old.firm found h (old.sound stands) made)
]

rows-left : (old new : Seen) → LeavesSame old new → LeavesTrail old new
rows-left old new same found left = elim (same found left) [
  | inl before ↦ inl before
  | inr is ↦ inr (same-kept old.firm found is)
]

-- one after another
pub left-then : (old mid new : Seen) → LeavesTrail old mid → KeepsTrail old.firm mid.firm → LeavesTrail mid new
    → LeavesTrail old new
left-then old mid new first kept next found left = elim (next found left) [
  | inl before ↦ first found before
  | inr made ↦ inr (onward old.firm mid.firm found kept made)
]

-- A run.

-- a stream leaves a sound firm
stream-sound : {day : ℕ} {stream : Option (List ℕ)} {output : Output} {end : StreamEnd} (before after : Firm)
    → FirmSound before → StreamEnds day stream output end before after → FirmSound after
stream-sound {day} before after sound ends =
    sound-behind day before after (map heard_of ends.messages) ends.replies sound ends.run

stream-kept : {day : ℕ} {stream : Option (List ℕ)} {output : Output} {end : StreamEnd} (before after : Firm)
    → FirmSound before → StreamEnds day stream output end before after → KeepsTrail before after
stream-kept {day} before after sound ends =
    runs-keep_trails day before after (map heard_of ends.messages) ends.replies sound ends.run

module _ {W : Type 0} (contents : W → Option (List ℕ)) where
  client-sound : (day : ℕ) (comes : Comes W → Type 0) (before : Firm) (end : ClientEnd) (after : Firm)
      → FirmSound before → IsMet contents day comes before end after → FirmSound after
  client-sound day comes before (became.Served end) after sound met = stream-sound before after sound met.ends
  client-sound day comes before became.Gone after sound met = subst FirmSound (sym met.firm) sound

  client-kept : (day : ℕ) (comes : Comes W → Type 0) (before : Firm) (end : ClientEnd) (after : Firm)
      → FirmSound before → IsMet contents day comes before end after → KeepsTrail before after
  client-kept day comes before (became.Served end) after sound met = stream-kept before after sound met.ends
  client-kept day comes before became.Gone after sound met = same-kept before after met.firm

  clients-kept : (day : ℕ) (comes : ℕ → Comes W → Type 0) (before : Firm) (ends : List ClientEnd) (after : Firm)
      → FirmSound before → AreMetInTurn contents day comes before ends after → KeepsTrail before after
  clients-kept day comes before [] after sound met = same-kept before after met
  clients-kept day comes before (end ∷ ends) after sound (mid, met, rest) =
      onward before mid after (client-kept day (comes 0) before end mid sound met)
      (clients-kept day (λ k. comes (suc k)) mid ends after (client-sound day (comes 0) before end mid sound met) rest)

statement-kept : (day : ℕ) (longer : Bool) (bytes : Option (List ℕ)) (output : Output) (told : Outcome)
    (before after : Firm) → FirmSound before
    → MatchBool longer (Large output told before after) (Run day bytes output told before after)
    → KeepsTrail before after
statement-kept day true bytes output told before after sound large = same-kept before after large.firm
statement-kept day false bytes output told before after sound run =
    let imports = run.imported.imports in
    subst (KeepsTrail before) (sym imports.leaves) (items-keep_trails day before imports.front sound)

file-kept : (day : ℕ) (file : File) (output : Output) (told : Outcome) (before after : Firm) → FirmSound before
    → FileEnds day file output told before after → KeepsTrail before after
file-kept day file output told before after sound (inl read) =
    statement-kept day (is_told_longer read.size) file.bytes output told before after sound read.ends
file-kept day file output told before after sound (inr unopened) = same-kept before after unopened.firm

match-kept : (day : ℕ) (file : File) (output : Output) (told : Outcome) (before after : Firm)
    → MatchFileEnds day file output told before after → KeepsTrail before after
match-kept day file output told before after (inl read) = same-kept before after read.ends.firm
match-kept day file output told before after (inr unopened) = same-kept before after unopened.firm

port-kept : {W : Type 0} (day : ℕ) (clients : Clients W) (refused : Type 0) (output : Output) (told : Outcome)
    (before after : Firm) → FirmSound before → PortEnds day clients refused output told before after
    → KeepsTrail before after
port-kept day clients refused output told before after sound (inl served) =
    clients-kept clients.contents day clients.comes before served.ends after sound served.met
port-kept day clients refused output told before after sound (inr none) = same-kept before after none.firm

pub run-kept : {W : Type 0} (words : List Text) (known : Known W) (output : Output) (told : Outcome)
    (before after : Firm) → FirmSound before → Ran words known output told before after → KeepsTrail before after
run-kept words known output told before after sound (inl sheet) = sheet.trail
run-kept words known output told before after sound (inr (inl statement)) =
    file-kept statement.today (known.files statement.path.now) output told before after sound statement.ends
run-kept words known output told before after sound (inr (inr (inl match))) =
    match-kept match.today (known.files match.path.now) output told before after match.ends
run-kept words known output told before after sound (inr (inr (inr (inl stream)))) =
    stream-kept before after sound stream.ends.ends
run-kept words known output told before after sound (inr (inr (inr (inr (inl serve))))) =
    port-kept serve.today (clients_of serve.count known.contents (known.ports serve.port).comes)
    (known.ports serve.port).refuses output told before after sound serve.ends
run-kept words known output told before after sound (inr (inr (inr (inr (inr (inl report)))))) =
    steps-keep_trails report.today before after _ report.prints.reply sound report.prints.steps
run-kept words known output told before after sound (inr (inr (inr (inr (inr (inr (inl check))))))) =
    same-kept before after check.ends.firm
run-kept words known output told before after sound (inr (inr (inr (inr (inr (inr (inr nothing))))))) =
    same-kept before after nothing.firm

-- What a crash leaves.

-- of a stream of which no reply but the last told of a fault
pub served-left : {day : ℕ} {stream before after : Option (List ℕ)} {end : StreamEnd} (old new : Seen)
    (served : Served day stream before old end after new) → new.sure → old.clean → old.stands
    → AreNoFaultsButLast served.replies → LeavesTrail old new
served-left {day} old new served sure clean stands plain found left =
    elim ((served.crash sure clean stands plain).crash found left) [
      | inl before ↦ inl before
      | inr made ↦
          let shut = served.shut sure clean stands in
          let heard = map-append heard_of shut.front shut.rest in
          let all : map heard_of shut.front ++ map heard_of shut.rest ≡ map heard_of served.messages =
          sym heard ∙ ap (map heard_of) shut.parts in
          let long = served.paired ∙ sym (length-map served.messages heard_of) ∙ ap length (sym all) in
          inr (run-stops_keep_trails day old.firm shut.mid found (map heard_of shut.front) (map heard_of shut.rest)
          served.replies (old.sound stands) shut.run plain long
          (subst (λ hs. IsMadeInRun day old.firm hs found) (sym all) made))
    ]

pub run-left : {B W : Type 0} (seen : B → Seen) (words : List Text) (known : Known W) (output : Output) (told : Outcome)
    (old new : B) → (seen old).stands → LeavesRun seen words known output told old new
    → LeavesTrail (seen old) (seen new) ⊎ MeansGoingOn words
run-left seen words known output told old new stands (inl sheet) = inl sheet.trail
run-left seen words known output told old new stands (inr (inl statement)) = inl (λ found left. cases found left statement.items)
  where
    cases : (found : Firm) → (seen new).leaves found
        → LeavesItems seen statement.today (known.files statement.path.now) told old new
        → (seen old).leaves found ⊎ KeepsTrail (seen old).firm found
    cases found left (inl may) = elim (may.crash found left) [
      | inl before ↦ inl before
      | inr first ↦ inr (first-items_keep statement.today (seen old).firm found _ ((seen old).sound stands) first)
    ]
    cases found left (inr unopened) = inl (subst (λ b. (seen b).leaves found) unopened.1 left)
run-left seen words known output told old new stands (inr (inr (inl match))) = inl (rows-left (seen old) (seen new) match.rows)
run-left seen words known output told old new stands (inr (inr (inr (inl stream)))) = inr (inl (stream.today, stream.means))
run-left seen words known output told old new stands (inr (inr (inr (inr (inl port))))) =
    inr (inr (inl (port.today, port.port, port.count, port.means)))
run-left seen words known output told old new stands (inr (inr (inr (inr (inr (inl report)))))) =
    inl (rows-left (seen old) (seen new) report.rows)
run-left seen words known output told old new stands (inr (inr (inr (inr (inr (inr (inl check))))))) =
    inr (inr (inr (check.today, check.means)))
run-left seen words known output told old new stands (inr (inr (inr (inr (inr (inr (inr same))))))) =
    inl (λ found left. inl (subst (λ b. (seen b).leaves found) same left))
