-- A request of the leader, and the view that walks it.
use Rattle.std.specs.Prelude.{◌≡◌, ℕ, List, [], ◌∷◌, ◌++◌, drop, Option, Some, None, Result, Ok, Err}
use Rattle.dap_messages.specs.declared.body.Half.{Half}
use Rattle.dap_messages.specs.declared.fault.Form.{Form}
use Rattle.dap_messages.specs.declared.item.Tagged.{Tagged}
use Rattle.dap_messages.specs.declared.job.JobNo.{JobNo}
use Rattle.dap_messages.specs.declared.message.Message.TheVariants.{InitReq}
use Rattle.dap_messages.specs.Forms.{half}
use Rattle.dap_messages.specs.Grammar.{item}
use Rattle.dap_views.specs.declared.part.PartView.{PartView}
use Rattle.dap_views.specs.declared.request.RequestView.{RequestView}
use Rattle.dap_views.specs.Parts.{item_of, parts_at, place_in}
use Rattle.dap_views.specs.Whole.{request_in}

-- what a view shows: the whole message, its job and name, and the parts that are still to come
pub record Request : Type 0 where
  pub message : List ℕ
  pub job : JobNo
  pub name : List ℕ
  pub parts : List (Tagged Half)

-- the parts that a view has still to hand out
abbrev pub parts_left : RequestView → List (Tagged Half)
parts_left v = parts_at v.left (place_in v.bytes.now v.place)

-- what this view shows
abbrev pub request_of : RequestView → Request
request_of v = record { message = v.bytes.now; job = v.job; name = v.name.now; parts = parts_left v }

-- the bytes behind those that a view has walked past
abbrev pub ahead_of : RequestView → List ℕ
ahead_of v = drop v.place v.bytes.now

-- the view shows the request that the bytes spell, with all of its parts, or this is the place of the first fault
abbrev pub Views : List ℕ → Result RequestView Form → Type 0
Views input (Ok v) = (request_in input ≡ Ok (InitReq v.job v.name.now (parts_left v))) × (v.bytes.now ≡ input)
Views input (Err form) = request_in input ≡ Err form.at

-- The first of the parts that were still to come is handed out; it is spelled by the bytes that were ahead, and the others
-- are ahead still.
pub record HandsPart (old : RequestView) (part : PartView) (new : RequestView) : Type 0 where
  pub first : request_of old ≡ record (request_of new) { parts = item_of part ∷ parts_left new }
  pub stands : ahead_of old ≡ (item half None).spell (item_of part) ++ ahead_of new

-- the next part is handed out, or there is none and nothing changes
abbrev pub HandsOut : RequestView → Option PartView → RequestView → Type 0
HandsOut old None new = (parts_left old ≡ []) × (new ≡ old)
HandsOut old (Some part) new = HandsPart old part new
