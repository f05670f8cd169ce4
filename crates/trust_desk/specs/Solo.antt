-- A matter's own machine, which knows nothing but the matter's dossier: its rows, and its acts.
use Rattle.std.specs.Prelude.{ℕ, List, [], ◌∷◌, ◌++◌}
use Rattle.matter_rows.specs.Rows.{Rows}
use Rattle.trust_matter.specs.Step.{rows_after}
use Rattle.trust_matter.specs.LineStep.{rows_after_line}
use Rattle.trail_laws.specs.Dossier.{Dossier, dossier_after, dossier_after_line}
use Rattle.trust_desk.specs.declared.requests.Reply.{Reply}
use Rattle.trust_desk.specs.Acts.{acts_for}
use Rattle.trust_desk.specs.Replies.{json_reply, refused, reply_of}
use Rattle.trust_desk.specs.Heard.{Own, OwnAsk, OwnActs, OwnRefusal, OwnLine}

-- the dossier after one of the things that concern the matter; to read its acts leaves it, and so does a refusal
abbrev pub own_dossier : Dossier → Own → Dossier
own_dossier p (OwnAsk a) = dossier_after p a
own_dossier p (OwnActs caller day) = p
own_dossier p (OwnRefusal r) = p
own_dossier p (OwnLine l day) = dossier_after_line p l day

-- the reply to it. Only to a request for the acts is it made of the acts; to a line there is none
abbrev pub own_reply : ℕ → Dossier → Own → List Reply
own_reply m p (OwnAsk a) = reply_of m p.rows a ∷ []
own_reply m p (OwnActs caller day) = json_reply (acts_for caller day p) ∷ []
own_reply m p (OwnRefusal r) = refused r ∷ []
own_reply m p (OwnLine l day) = []

-- the matter's dossier after all that concerns it
abbrev pub solo_dossier : Dossier → List Own → Dossier
solo_dossier p [] = p
solo_dossier p (own ∷ owns) = solo_dossier (own_dossier p own) owns

-- the replies to all that concerns matter m
abbrev pub solo_replies : ℕ → Dossier → List Own → List Reply
solo_replies m p [] = []
solo_replies m p (own ∷ owns) = own_reply m p own ++ solo_replies m (own_dossier p own) owns

-- Its rows alone, which its acts do not decide.

abbrev pub own_rows : Rows → Own → Rows
own_rows rows (OwnAsk a) = rows_after rows a
own_rows rows (OwnActs caller day) = rows
own_rows rows (OwnRefusal r) = rows
own_rows rows (OwnLine l day) = rows_after_line rows l day

-- the matter's rows after all that concerns it
abbrev pub solo_rows : Rows → List Own → Rows
solo_rows rows [] = rows
solo_rows rows (own ∷ owns) = solo_rows (own_rows rows own) owns
