-- The script of each change of the firm is meant.
use Rattle.sql_rows.proofs.Names.{ℕ, Option, sym, ap, ◌∙◌, subst, IsKeyedBy, Line, MatterChange, OfMatter, Repeated, Unmatched, Dismissed, OfFirm, OfBalance, matched_by, StaysSound, IsScriptMeant, ScriptsAreMeant, line_steps, matter_steps}
use Rattle.sql_rows.proofs.Exceptions.{key}
use Rattle.sql_rows.proofs.LineScripts.{line_gone, line_scripts, meant_after}
use Rattle.sql_rows.proofs.MatterMade.{matter_made}
use Rattle.sql_rows.proofs.Steps.{made-append}

-- what is written for the matter comes first, and then the line that made the change is no exception
matter_script : StaysSound → (m : ℕ) (c : MatterChange) (line : Option Line) → IsScriptMeant (OfMatter m line c)
matter_script stays m c line a b sound keyed typed fits made =
    let parts = made-append (matter_steps m c c.edit) (line_steps line) a b made in
    let mid = parts.0 in
    let done = matter_made m c a mid typed.0 sound.keyed sound.meant typed.1 typed.2 fits parts.1 in
    let up : IsKeyedBy key mid.exceptions = subst (IsKeyedBy key) (sym done.exceptions) sound.keyed.exceptions in
    let gone = line_gone line mid b parts.2 up done.meant in
    meant_after stays (OfMatter m line c) a b sound keyed fits (gone.0 ∙ ap (matched_by line) done.firm) gone.1

-- whatever the change, where each that fits leaves a sound firm
pub scripts_meant : StaysSound → ScriptsAreMeant
scripts_meant stays (OfMatter m line c) = matter_script stays m c line
scripts_meant stays (Repeated line) = (line_scripts stays).repeated line
scripts_meant stays (Unmatched line) = (line_scripts stays).unmatched line
scripts_meant stays (Dismissed day line) = (line_scripts stays).dismissed day line
scripts_meant stays (OfFirm line) = (line_scripts stays).of_firm line
scripts_meant stays (OfBalance kind line) = (line_scripts stays).of_balance kind line
