-- What is seen of what a run uses: of files, of all that it can read, and of a store of books.
use Rattle.std.specs.Prelude.{ℕ, List, Option, Result}
use Rattle.clap.specs.Words.{Text}
use Rattle.trust_base.specs.declared.refusal.StoreFault.{StoreFault}
use Rattle.trust_store.specs.Seen.{Seen}
use Rattle.portal_http.specs.Clients.{Ports}

pub record File : Type 1 where
  -- its bytes, if they are known
  pub bytes : Option (List ℕ)
  -- what opening it may return: `None` if it can't be opened, otherwise its length if it reports one
  pub opens : Option (Option ℕ) → Type 0

-- the files, by their paths
abbrev pub Files : Type 1
Files = Text → File

-- what is known of all that a run can read
pub record Known (W : Type 0) : Type 1 where
  -- the bytes of standard input, if they are known
  pub input : Option (List ℕ)
  -- the files that words can name
  pub files : Files
  -- the ports that they can name
  pub ports : Ports W
  -- what was written to a client of a port, if it is known
  pub contents : W → Option (List ℕ)

abbrev pub known_of : {W : Type 0} → Option (List ℕ) → Files → Ports W → (W → Option (List ℕ)) → Known W
known_of input files ports contents =
    record { input = input; files = files; ports = ports; contents = contents }

-- a store of books, each at a path
pub record Books (B : Type 0) : Type 1 where
  -- what is seen of a book
  pub seen : B → Seen
  -- which books may be found at a path
  pub finds : Text → B → Type 0
  -- what may have become of a book that was put back, given the result
  pub puts : B → Result Unit StoreFault → Type 0

abbrev pub books_of : {B : Type 0} → (B → Seen) → (Text → B → Type 0) → (B → Result Unit StoreFault → Type 0) → Books B
books_of seen finds puts = record { seen = seen; finds = finds; puts = puts }
