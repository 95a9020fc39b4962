-- Writers of an output, one after another.
use Rattle.std.proofs.Common.{◌∙◌}
use Rattle.script.specs.Output.{Writes}
use Rattle.script.specs.declared.write.Output.{Output}
use Rattle.script.proofs.Outputs.{next}

pub both : {a b c : Output} → Writes a b → Writes b c → Writes a c
both v w =
    record {
      same_reference = w.same_reference ∙ v.same_reference;
      wrote = next v.wrote w.wrote;
    }
