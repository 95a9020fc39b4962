-- `upkeep::settings::name_from`: the bytes that are copied, and zeros behind them.
use Rattle.std.proofs.Common.{◌≡◌, ℕ, ◌-◌, min, List, ◌++◌, length, take, drop, replicate, ap, ◌∙◌, arith}
use Rattle.std.proofs.lemmas.List.{take_min, length-take, drop-replicate}
use Rattle.types.specs.Bounds.{longest_name}
use Rattle.upkeep.proofs.settings.name_from.Goals as goal

module _ (name : List ℕ) (n : ℕ) (e : n ≡ min (length name) longest_name) where
  front : take n name ≡ take longest_name name
  front = let k : n ≡ min longest_name (length name) = omega (arith, e) in ap (λ (i : ℕ). take i name) k ∙ take_min longest_name name

  size : n ≡ length (take longest_name name)
  size = omega (arith, e, length-take longest_name name)

  filled : take n name ++ drop n (replicate longest_name 0) ≡ take longest_name name ++ replicate (longest_name - length (take longest_name name)) 0
  filled =
      (λ j. front j ++ drop-replicate n longest_name 0 j)
      ∙ ap (λ (k : ℕ). take longest_name name ++ replicate (longest_name - k) 0) size

pub returns : goal.returns
returns c =
    let name = c.args.name.now in
    let n = c.min-len in
    let e = ap (λ (l : List ℕ). l ++ drop n.result (replicate longest_name 0)) c.copy_from_slice.ensures.after ∙ filled name n.result n.ensures in
    λ j. record { bytes = e j; len = size name n.result n.ensures j }
