-- A remapping list links as its remappings put in the bundle. Assumes nothing.
use Rattle.std.specs.Prelude.{ℕ, ◌≡◌, List, length, take}
use Rattle.std.proofs.Math.Path.{ap, subst}
use Rattle.std.proofs.Common.{sym, ◌∙◌}
use Rattle.bundle.specs.Bundle.{Text, Bundle}
use Rattle.bundle.specs.Encode.{encode}
use Rattle.bundle.specs.Form.{WellFormed}
use Rattle.bundle.specs.Read.{value, read, verdict}
use Rattle.bundle.specs.Theorems.{complete}
use Rattle.linker.specs.Link.{link_bundle}
use Rattle.linker.specs.Call.{answer_to, report_to, image_to, entries_to, TreeTo, link_answer, link_report, link_image, link_entries, LinkTree}
use Rattle.scope_tree.specs.declared.Tree.{Tree}
use Rattle.remapping_lines.specs.Lines.{Section, lines_answer, lines_buffer}
use Rattle.remapping_lines.specs.Theorems.{meant, with_section, with_remappings, same_bytes, written, accepted-remappings}

-- b with what the operation wrote of a list at its remappings' place, and b with the remappings meant, written by the encoder
module _ (b : Bundle) (list : Text) (out : List ℕ) (n : ℕ) (told : lines_answer list (length out) ≡ Section n) where
  abbrev pub spliced : List ℕ
  spliced = with_section b (take n (lines_buffer list out))

  abbrev pub remapped : Bundle
  remapped = with_remappings b (meant list)

  -- THE SAME BYTES
  pub same-bundle : spliced ≡ encode remapped
  same-bundle = ap (with_section b) (written list out n told).starts ∙ same_bytes b list

  -- so whatever is told of a bundle is told of both alike: the verdict with its number and place, the value read, and of a link its
  -- answer (units, order, number, place and lengths), report, image and tree
  pub record AsOne : Type 0 where
    pub verdicts : verdict spliced ≡ verdict (encode remapped)
    pub values : read spliced ≡ read (encode remapped)
    pub answers : (report image : List ℕ) → link_answer spliced report image ≡ link_answer (encode remapped) report image
    pub reports : (report : List ℕ) → link_report spliced report ≡ link_report (encode remapped) report
    pub images : (image : List ℕ) → link_image spliced image ≡ link_image (encode remapped) image
    pub entries : (image : List ℕ) → link_entries spliced image ≡ link_entries (encode remapped) image
    pub trees : (image : List ℕ) (t u : Tree) → LinkTree spliced image t u → LinkTree (encode remapped) image t u
    pub trees_back : (image : List ℕ) (t u : Tree) → LinkTree (encode remapped) image t u → LinkTree spliced image t u
    -- and an accepted bundle has the remappings meant
    pub remappings : (b' : Bundle) → read spliced ≡ value b' → b'.remappings ≡ meant list

  pub as_one : AsOne
  as_one =
      let e = same-bundle in
      record {
        verdicts = ap verdict e;
        values = ap read e;
        answers = λ report image. ap (λ (s : List ℕ). link_answer s report image) e;
        reports = λ report. ap (λ (s : List ℕ). link_report s report) e;
        images = λ image. ap (λ (s : List ℕ). link_image s image) e;
        entries = λ image. ap (λ (s : List ℕ). link_entries s image) e;
        trees = λ image t u. subst (λ (s : List ℕ). LinkTree s image t u) e;
        trees_back = λ image t u. subst (λ (s : List ℕ). LinkTree s image t u) (sym e);
        remappings = λ b' h. accepted-remappings b list (written list out n told).passes b' (ap (λ (x : List ℕ). read (with_section b x)) (sym (written list out n told).starts) ∙ h);
      }

  -- AND WHERE THE BUNDLE WITH THE REMAPPINGS IS WELL-FORMED it is the value read, so that all of it is told of its `link_bundle`
  pub record AsRemapped : Type 0 where
    pub reads : read spliced ≡ value remapped
    pub answers : (report image : List ℕ) → link_answer spliced report image ≡ answer_to (value remapped) (length report) (length image)
    pub reports : (report : List ℕ) → link_report spliced report ≡ report_to (value remapped) report
    pub images : (image : List ℕ) → link_image spliced image ≡ image_to (value remapped) image
    pub entries : (image : List ℕ) → link_entries spliced image ≡ entries_to (value remapped) (length image)
    pub trees : (image : List ℕ) (t u : Tree) → LinkTree spliced image t u → TreeTo (value remapped) (length image) t u
    pub outcome : (b' : Bundle) → read spliced ≡ value b' → link_bundle b' ≡ link_bundle remapped

  pub as_remapped : WellFormed remapped → AsRemapped
  unfolding link_answer link_report link_image link_entries LinkTree
  as_remapped w =
      let r : read spliced ≡ value remapped = ap read same-bundle ∙ complete remapped w in
      record {
        reads = r;
        answers = λ report image. ap (λ x. answer_to x (length report) (length image)) r;
        reports = λ report. ap (λ x. report_to x report) r;
        images = λ image. ap (λ x. image_to x image) r;
        entries = λ image. ap (λ x. entries_to x (length image)) r;
        trees = λ image t u h. subst (λ x. TreeTo x (length image) t u) r h;
        outcome = λ b' e. ap link_bundle (value_same (sym e ∙ r));
      }
    where
      value_same : {a c : Bundle} → value a ≡ value c → a ≡ c
      value_same e = cc
