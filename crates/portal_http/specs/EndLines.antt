-- The lines that say what became of clients.
use Rattle.std.specs.Prelude.{◌≡◌, ◌≤◌, ◌<◌, ℕ, List, [], ◌∷◌, ◌++◌, Option, codes, length, take}
use Rattle.std.specs.List.{flat_map}
use Rattle.std.specs.Io.KnownBytes.{Appends}
use Rattle.portal_http.specs.declared.stream.StreamEnd.{StreamEnd}
use Rattle.portal_http.specs.declared.stream.StreamEnd.TheVariants as stream
use Rattle.portal_http.specs.declared.server.ClientEnd.{ClientEnd}
use Rattle.portal_http.specs.declared.server.ClientEnd.TheVariants as client
use Rattle.portal_http.specs.declared.server.ServeEnd.{ServeEnd}
use Rattle.portal_http.specs.declared.server.ServeEnd.TheVariants as serving

-- the name of a stream's end
abbrev pub end_name : StreamEnd → List ℕ
end_name stream.Ended = codes "Ended"
end_name stream.BadFraming = codes "BadFraming"
end_name stream.Limit = codes "Limit"
end_name stream.ReadFault = codes "ReadFault"
end_name stream.WriteFault = codes "WriteFault"
end_name stream.NoMemory = codes "NoMemory"

-- what is told of a client: how its stream ended, or that it was gone
abbrev pub client_name : ClientEnd → List ℕ
client_name (client.Served end) = end_name end
client_name client.Gone = codes "Gone"

-- that and a newline
abbrev pub client_line : ClientEnd → List ℕ
client_line end = client_name end ++ 10 ∷ []

-- the lines of clients, one after another
abbrev pub client_lines : List ClientEnd → List ℕ
client_lines ends = flat_map client_line ends

-- only a prefix of the text was written
pub record IsFrontWritten (text : List ℕ) (before after : Option (List ℕ)) : Type 0 where
  pub size : ℕ
  pub less : size < length text
  pub written : Appends before after (take size text)

-- how many clients there were, and a line written for each; if a line could not be written, a prefix of the lines
abbrev pub IsTold : ServeEnd → ℕ → List ClientEnd → Option (List ℕ) → Option (List ℕ) → Type 0
IsTold serving.Done count ends before after = (length ends ≡ count) × Appends before after (client_lines ends)
IsTold serving.NetworkFault count ends before after =
    (length ends < count) × Appends before after (client_lines ends)
IsTold serving.WriteFault count ends before after =
    (length ends ≤ count) × IsFrontWritten (client_lines ends) before after
