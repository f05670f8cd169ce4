-- How the list of the clients' ledgers as of a day is printed.
use Rattle.std.specs.Prelude.{ℕ, ℤ, List, [], ◌∷◌, ◌++◌, codes, flat_map}
use Rattle.trust_base.specs.Texts.{matter_text, signed_text}
use Rattle.firm_figures.specs.declared.clients_sink.ClientLine.{ClientLine}
use Rattle.trust_reports.specs.Texts.{further, heading, left_in, right_in}
use Rattle.trust_reports.specs.TextsOfLedgers.{barred}
use Rattle.trust_reports.specs.TextsOfLists.{figure_line}

-- a line of a label and a figure, as `figure_line`, with further fields
abbrev pub figure_and_fields : List ℕ → ℤ → List (List ℕ) → List ℕ
figure_and_fields label figure fields =
    left_in 14 label ++ (right_in 24 (signed_text figure) ++ (flat_map further fields ++ 10 ∷ []))

-- a matter, its ledger, and after a bar its client
abbrev pub client_text_line : ClientLine → List ℕ
client_text_line l = figure_and_fields (matter_text l.matter) l.ledger (barred l.client)

-- the ledger of each matter that was open as of the day, the firm's own balance, and their sum
abbrev pub clients_text : ℕ → List ClientLine → ℤ → ℤ → List ℕ
clients_text p lines own total =
    heading (codes "CLIENTS") p
    ++ (flat_map client_text_line lines
    ++ (figure_line (codes "FIRM") own
    ++ figure_line (codes "TOTAL") total))
