use Rattle.std.proofs.Common.{◌≡◌, drop}
use Rattle.dap_outside.specs.Filed.{file_in}
use Rattle.dap_outside.proofs.files.find.Given as goal

-- none of the files so far has the name
abbrev pub invariant-loop-file : goal.invariant-loop-file
invariant-loop-file l = file_in (drop l.file-index l.files) l.name ≡ file_in l.files l.name
