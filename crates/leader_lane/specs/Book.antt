-- The uploads in hand of a lane, and its answers.
use Rattle.std.specs.Prelude.{ℕ, List, [], ◌∷◌, ◌++◌, take, drop, Bool, true, false, Option, Some, None}
use Rattle.dap_tasks.specs.declared.cause.Answer.{Answer}
use Rattle.dap_wire.specs.declared.upload.Upload.{Upload}

-- the kept answers, those that the block in hand would give, the uploads in hand, and how many of these, the first, the block judges
pub record BookView : Type 0 where
  pub answers : List Answer
  pub block_answers : List Answer
  pub hand : List Upload
  pub in_block : ℕ

-- the uploads that the block in hand judges
abbrev pub judged_by_block : BookView → List Upload
judged_by_block b = take b.in_block b.hand

-- no answers and no uploads
abbrev pub no_book : BookView
no_book = record { answers = []; block_answers = []; hand = []; in_block = 0 }

-- an upload more is in hand
abbrev pub held : Upload → BookView → BookView
held u b = record b { hand = b.hand ++ u ∷ [] }

-- a block judges the first so many uploads in hand, with these answers
abbrev pub proposed : ℕ → List Answer → BookView → BookView
proposed n given b = record b { block_answers = given; in_block = n }

-- the block in hand counts: its uploads are judged, and its answers are kept
abbrev pub landed : BookView → BookView
landed b = record b { answers = b.answers ++ b.block_answers; block_answers = []; hand = drop b.in_block b.hand; in_block = 0 }

-- the block in hand is lost: its uploads stay in hand
abbrev pub lost : BookView → BookView
lost b = record b { block_answers = []; in_block = 0 }

-- by what became of the block in hand; as it was while that is open
abbrev pub settled_by : Option Bool → BookView → BookView
settled_by None b = b
settled_by (Some true) b = landed b
settled_by (Some false) b = lost b

-- the kept answers are handed out
abbrev pub emptied : BookView → BookView
emptied b = record b { answers = [] }
