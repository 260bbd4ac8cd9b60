-- A bundle that is not refused by 1 to 6 is what the encoder writes of its value, and the value is in form. Assumes nothing.
use Prim.Native.Nat.{ℕ, zero, suc, ◌+◌, ◌-◌, ◌≤◌}
use native.Mathlib.Omega.{arith}
use Rattle.std.specs.Prelude.{Bool, true, false, cond, ◌≡◌, ltb}
use Rattle.std.proofs.Math.Path.{refl, sym, ap}
use Rattle.std.proofs.Common.{subst, ◌∙◌, ltb-false}
use mathlib.Core.List.{List, [], ◌∷◌, ◌++◌, append-nil}
use Rattle.std.proofs.Math.ListN.{length}
use Rattle.std.proofs.Math.Seq.{drop-length}
use Rattle.names.specs.Path.{is_path}
use Rattle.bundle.specs.Limits.{defined, header, width, folder_width, file_width, most_folders, remapping_limit, most_files, item_limit, most_uses, depth_limit}
use Rattle.bundle.specs.Encode.{string, count_bytes, joined, sized, items, remapping, file, fields, encode}
use Rattle.bundle.specs.Encode.{counted as byte-list, counted_by as count-list}
use Rattle.bundle.specs.Scan.{byte, word, text, version_of, count, past_count, times, scan_string, scan_path, scan_field, scan_count, scan_list, scan_length, scan_end, scan_file, scan_files, scan_header}
use Rattle.bundle.specs.Decode.{each, far, counted_by, counted, after, after_remapping, after_length, after_file, after_list_by, after_list, remapping_at, file_at, items_at, folders_at, remappings_at, files_at, decode}
use Rattle.bundle.specs.Conflicts.{conflicts}
use Rattle.bundle.specs.Steps.{string-next, formed-next, length-next, count_next, end-next, read-then, walked_on, walked_then}
use Rattle.bundle.specs.Walks.{file_goes}
use Rattle.bundle.specs.Form.{Every, IsPath, FormedRemapping, FormedFile, Marked, MarkedFiles, item_count, use_count, file_items, file_uses, InForm}
use Rattle.bundle.specs.Stand.{Bytes, Stands, stands-then, stands-length, stands-byte, stands-count, stands-sized}
use Rattle.bundle.specs.Sound.{Read, CountRead, formed-read, remapping-read, count-read}
use Rattle.bundle.specs.SoundItems.{ItemsAre, items-are-read}
use Rattle.bundle.specs.Read.{form, lists, files, verdict, after_walk}
use Rattle.bundle.specs.Answers.{refused-ok, both_ok}
use Rattle.bundle.specs.Read.{after as then_ok}
use Rattle.bundle.specs.declared.Width.{Width}
use Rattle.bundle.specs.declared.Width.TheVariants.{Byte}
use Rattle.bundle.specs.Results.{Scan}
use Rattle.bundle.specs.Results.{Next, Bad}
use Rattle.bundle.specs.Results.{Walk}
use Rattle.bundle.specs.Results.{Past, Fault}
use Rattle.bundle.specs.declared.Field.{Field}
use Rattle.bundle.specs.declared.Field.TheVariants.{Path, Remapping as RemappingField}
use Rattle.bundle.specs.Results.{Checked}
use Rattle.bundle.specs.Results.{Ok}

-- WHAT WAS NOT REFUSED
pub record Went (X : Scan) (f : ℕ → Checked) : Type 0 where
  pub mid : ℕ
  pub first : X ≡ Next mid
  pub second : f mid ≡ Ok

pub went_on : (X : Scan) {f : ℕ → Checked} → then_ok X f ≡ Ok → Went X f
went_on (Next m) h = record { mid = m; first = refl; second = h }
went_on (Bad k p) h = absurd (refused-ok h)

pub record WentWalk (X : Walk) (f : ℕ → Checked) : Type 0 where
  pub at : ℕ
  pub count : ℕ
  pub uses : ℕ
  pub first : X ≡ Past at count uses
  pub second : f at ≡ Ok

pub went_walk : (X : Walk) {f : ℕ → Checked} → after_walk X f ≡ Ok → WentWalk X f
went_walk (Past a c u) h = record { at = a; count = c; uses = u; first = refl; second = h }
went_walk (Fault k p) h = absurd (refused-ok h)

pub record HeaderIs (s : List ℕ) (n : ℕ) : Type 0 where
  pub at : n ≡ header
  pub long : header ≤ length s
  pub is_defined : defined (version_of s) ≡ true
  pub counts : word s 1 ≡ length s - header

header_is : (s : List ℕ) (n : ℕ) → scan_header s ≡ Next n → HeaderIs s n
unfolding scan_header
header_is s n h =
    go (ltb (length s) header) (defined (version_of s)) (ltb (length s - header) (word s 1)) (ltb (word s 1) (length s - header)) refl refl refl refl h
  where
    no : {k p : ℕ} → Bad k p ≡ Next n → ⊥
    no e = let z : ◌≡◌ {A = ℕ} 0 1 = cc in omega arith

    go : (a b c d : Bool) → ltb (length s) header ≡ a → defined (version_of s) ≡ b → ltb (length s - header) (word s 1) ≡ c → ltb (word s 1) (length s - header) ≡ d
        → cond a (Bad 1 0) (cond b (cond c (Bad 1 1) (cond d (Bad 1 (header + word s 1)) (Next header))) (Bad 2 0)) ≡ Next n → HeaderIs s n
    go true b c d p q r t h = absurd (no h)
    go false false c d p q r t h = absurd (no h)
    go false true true d p q r t h = absurd (no h)
    go false true false true p q r t h = absurd (no h)
    go false true false false p q r t h =
        let x : header ≡ n = cc in
        let l : header ≤ length s = ltb-false _ _ p in
        let m : word s 1 ≤ length s - header = ltb-false _ _ r in
        let k : length s - header ≤ word s 1 = ltb-false _ _ t in
        record { at = sym x; long = l; is_defined = q; counts = omega arith }

-- WHERE THE LISTS STAND that were not refused: of any numbers, bytes or not
path-next : (s : List ℕ) (end a n : ℕ) → scan_path s end a ≡ Next n → n ≡ after s a
path-next s end a n h = (string-next s end a (formed-next s end a is_path 4 h).0).1

remapping-next : (s : List ℕ) (end a n : ℕ) → scan_field RemappingField s end a ≡ Next n → n ≡ after_remapping s a
unfolding scan_field
remapping-next s end a n h =
    let m = read-then (scan_path s end a) h in
    let k = read-then (scan_string s end m.mid) m.second in
    path-next s end k.mid n k.second ∙ ap (after s) ((string-next s end m.mid k.first).1 ∙ ap (after s) (path-next s end a m.mid m.first))

times-far : (n : ℕ) (f : ℕ → Scan) (skip : ℕ → ℕ) (at x : ℕ) → ((a y : ℕ) → f a ≡ Next y → y ≡ skip a) → times n f at ≡ Next x → x ≡ far skip n at
unfolding times far
times-far zero f skip at x k h = cc
times-far (suc n) f skip at x k h =
    let m = read-then (f at) h in
    times-far n f skip m.mid x k m.second ∙ ap (far skip n) (k at m.mid m.first)

list-next : (w : Width) (field : Field) (limit : ℕ) (s : List ℕ) (end at x : ℕ) (skip : ℕ → ℕ) → ((a y : ℕ) → scan_field field s end a ≡ Next y → y ≡ skip a)
    → scan_list w field limit s end at ≡ Next x → x ≡ after_list_by w skip s at
unfolding scan_list
list-next w field limit s end at x skip k h =
    let m = read-then (scan_count w 0 limit s end at) h in
    times-far (count w s at) (scan_field field s end) skip m.mid x k m.second ∙ ap (far skip (count w s at)) (count_next s end at w 0 limit m.first).0

-- a list that was read has no more than its limit
pub list-few : (w : Width) (field : Field) (limit : ℕ) (s : List ℕ) (end at x : ℕ) → scan_list w field limit s end at ≡ Next x → count w s at ≤ limit
unfolding scan_list
list-few w field limit s end at x h = let m = read-then (scan_count w 0 limit s end at) h in (count_next s end at w 0 limit m.first).3

pub record Parts (s : List ℕ) : Type 0 where
  pub headed : HeaderIs s header
  pub root : scan_path s (length s) header ≡ Next (folders_at s)
  pub folders : scan_list (folder_width (version_of s)) Path (most_folders (version_of s)) s (length s) (folders_at s) ≡ Next (remappings_at s)
  pub remappings : scan_list Byte RemappingField remapping_limit s (length s) (remappings_at s) ≡ Next (files_at s)
  pub files_pass : files s (files_at s) ≡ Ok

pub form-parts : (s : List ℕ) → form s ≡ Ok → Parts s
unfolding form lists scan_field
form-parts s h =
    let m = went_on (scan_header s) h in
    let H = header_is s m.mid m.first in
    let r = went_on (scan_path s (length s) m.mid) m.second in
    let x : r.mid ≡ folders_at s = path-next s (length s) m.mid r.mid r.first ∙ ap (after s) H.at in
    let f = went_on (scan_list (folder_width (version_of s)) Path (most_folders (version_of s)) s (length s) r.mid) r.second in
    let y : f.mid ≡ remappings_at s = list-next (folder_width (version_of s)) Path (most_folders (version_of s)) s (length s) r.mid f.mid (after s) (path-next s (length s)) f.first ∙ ap (after_list_by (folder_width (version_of s)) (after s) s) x in
    let g = went_on (scan_list Byte RemappingField remapping_limit s (length s) f.mid) f.second in
    let z : g.mid ≡ files_at s =
    list-next Byte RemappingField remapping_limit s (length s) f.mid g.mid (after_remapping s) (remapping-next s (length s)) g.first ∙ ap (after_list (after_remapping s) s) y in
    record {
      headed = subst (HeaderIs s) H.at H;
      root = ap (scan_path s (length s)) (sym H.at) ∙ (r.first ∙ ap Next x);
      folders = ap (scan_list (folder_width (version_of s)) Path (most_folders (version_of s)) s (length s)) (sym x) ∙ (f.first ∙ ap Next y);
      remappings = ap (scan_list Byte RemappingField remapping_limit s (length s)) (sym y) ∙ (g.first ∙ ap Next z);
      files_pass = ap (files s) (sym z) ∙ g.second;
    }

-- neither 1 to 6 nor 7 to 13
pub both-pass : (s : List ℕ) → verdict s ≡ Ok → (form s ≡ Ok) × (conflicts s ≡ Ok)
unfolding verdict
both-pass s h = both_ok (form s) (conflicts s) h

-- FILES
pub record FilesAre (s : List ℕ) (end n at c u a c' u' : ℕ) : Type 0 where
  pub ends : a ≡ far (after_file s) n at
  pub within : a ≤ end
  pub onward : at ≤ a
  pub stands : Stands s at (joined file (each (after_file s) (file_at s) n at)) a
  pub every : Every FormedFile (each (after_file s) (file_at s) n at)
  pub marked : MarkedFiles (each (after_file s) (file_at s) n at) at
  pub size : length (each (after_file s) (file_at s) n at) ≡ n
  pub count : c' ≡ c + file_items (each (after_file s) (file_at s) n at)
  pub uses : u' ≡ u + file_uses (each (after_file s) (file_at s) n at)

record FileIs (s : List ℕ) (end at c u a y z : ℕ) : Type 0 where
  ends : a ≡ after_file s at
  within : a ≤ end
  onward : at ≤ a
  stands : Stands s at (file (file_at s at)) a
  formed : FormedFile (file_at s at)
  marked : Marked (file_at s at).items (at + length (string (file_at s at).path) + 2)
  count : y ≡ c + item_count (file_at s at).items
  uses : z ≡ u + use_count (file_at s at).items

module _ (s : List ℕ) (B : Bytes s) (end : ℕ) (E : end ≤ length s) where
  file-is : (at c u a y z : ℕ) → scan_file s end at c u ≡ Past a y z → FileIs s end at c u a y z
  unfolding scan_file file_at file
  file-is at c u a y z h =
      let m = walked_on (scan_path s end at) h in
      let r = formed-read s B end E is_path 4 at m.mid m.first in
      let k = walked_on (scan_length s end m.mid) m.second in
      let l = length-next s end m.mid k.first in
      let i = items-are-read s B depth_limit k.mid (m.mid + 2) c u a y z (omega arith) (omega arith) k.second in
      parts m.mid k.mid r l.0 l.1 i.0 i.1
    where
      parts : (p n : ℕ) → Read s end IsPath string (after s) (text s) at p → n ≡ after_length s p → n ≤ end → a ≡ n
          → ItemsAre s depth_limit n (p + 2) c u y z (items_at depth_limit s n (p + 2)) → FileIs s end at c u a y z
      parts p n r e w q i =
          let e' : n ≡ after_file s at = e ∙ rw r.ends in
          let i1 : ItemsAre s depth_limit n (after s at + 2) c u y z (items_at depth_limit s n (after s at + 2)) = rw r.ends at i in
          let i2 : ItemsAre s depth_limit (after_file s at) (after s at + 2) c u y z (items_at depth_limit s (after_file s at) (after s at + 2)) = rw e' at i1 in
          let st : Stands s at (string (text s at)) (after s at) = rw r.ends at r.stands in
          let sz : Stands s (after s at) (sized (items (items_at depth_limit s (after_file s at) (after s at + 2)))) (after_file s at) = stands-sized s B _ (after s at) (omega arith) i2.stands in
          let len = stands-length s (string (text s at)) at (after s at) st (omega arith) (omega arith) in
          let z2 : after s at + 2 ≡ at + length (string (text s at)) + 2 = omega (arith, len) in
          record {
            ends = q ∙ e';
            within = omega arith;
            onward = omega arith;
            stands = rw (q ∙ e') (stands-then s (string (text s at)) (sized (items (items_at depth_limit s (after_file s at) (after s at + 2)))) at (after s at) (after_file s at) st sz);
            formed = (r.formed, i2.formed);
            marked = rw (← z2) i2.marked;
            count = i2.count;
            uses = i2.uses;
          }

  files_are : (n at c u a c' u' : ℕ) → at ≤ end → c ≤ item_limit → u ≤ most_uses (version_of s) → scan_files n s end at c u ≡ Past a c' u'
      → FilesAre s end n at c u a c' u' × (c' ≤ item_limit) × (u' ≤ most_uses (version_of s))
  unfolding scan_files far each joined Every MarkedFiles file_items file_uses
  files_are zero at c u a c' u' h hc hu e =
      let x : at ≡ a = cc in
      let y : c ≡ c' = cc in
      let z : u ≡ u' = cc in
      (record { ends = sym x; within = omega arith; onward = omega arith; stands = rw x; every = tt; marked = tt; size = refl; count = omega arith; uses = omega arith }, omega arith, omega arith)
  files_are (suc n) at c u a c' u' h hc hu e =
      let m = walked_then (scan_file s end at c u) e in
      let g = file_goes s end at c u m.at m.count m.uses hc hu m.first in
      let f = file-is at c u m.at m.count m.uses m.first in
      let r = files_are n m.at m.count m.uses a c' u' g.0 g.1 g.2 m.second in
      (more n at c u m.at m.count m.uses a c' u' f r.0, r.1, r.2)
    where
      more : (n at c u x y z a c' u' : ℕ) → FileIs s end at c u x y z → FilesAre s end n x y z a c' u' → FilesAre s end (suc n) at c u a c' u'
      more n at c u x y z a c' u' f r =
          let r' : FilesAre s end n (after_file s at) y z a c' u' = rw f.ends at r in
          let st : Stands s at (file (file_at s at)) (after_file s at) = rw f.ends at f.stands in
          let w = f.within in
          let o = f.onward in
          let q = f.ends in
          let len = stands-length s (file (file_at s at)) at (after_file s at) st (omega arith) (omega arith) in
          let z1 : after_file s at ≡ at + length (file (file_at s at)) = omega (arith, len) in
          record {
            ends = r'.ends;
            within = r.within;
            onward = omega (arith, r.onward);
            stands = stands-then s (file (file_at s at)) (joined file (each (after_file s) (file_at s) n (after_file s at))) at (after_file s at) a st r'.stands;
            every = (f.formed, r'.every);
            marked = (f.marked, rw (← z1) r'.marked);
            size = ap suc r'.size;
            count = omega (arith, r'.count, f.count);
            uses = omega (arith, r'.uses, f.uses);
          }

-- THE BUNDLE
pub record Sound (s : List ℕ) : Type 0 where
  pub formed : InForm (decode s)
  pub encoded : s ≡ encode (decode s)

module _ (s : List ℕ) (B : Bytes s) (E : length s ≤ length s) where
  -- the files' count and the files
  counted-files : (w : Width) (g a c u : ℕ) → past_count w g ≤ length s → FilesAre s (length s) (count w s g) (past_count w g) 0 0 a c u → a ≡ length s
      → Stands s g (count-list w file (counted_by w (after_file s) (file_at s) s g)) (length s)
  counted-files w g a c u le G last =
      let st : Stands s (past_count w g) (joined file (counted_by w (after_file s) (file_at s) s g)) (length s) = rw last at G.stands in
      rw G.size (stands-then s (count_bytes w (count w s g)) (joined file (counted_by w (after_file s) (file_at s) s g)) g (past_count w g) (length s) (stands-count s B w g le) st)

  -- the parts, where they stand
  put_together : (a c u : ℕ) → HeaderIs s header → Read s (length s) IsPath string (after s) (text s) header (folders_at s)
      → CountRead s B (length s) E (folder_width (version_of s)) IsPath string (after s) (text s) 0 (most_folders (version_of s)) (folders_at s) (remappings_at s)
      → CountRead s B (length s) E Byte FormedRemapping remapping (after_remapping s) (remapping_at s) 0 remapping_limit (remappings_at s) (files_at s)
      → 1 ≤ count (file_width (version_of s)) s (files_at s) → count (file_width (version_of s)) s (files_at s) ≤ most_files (version_of s) → past_count (file_width (version_of s)) (files_at s) ≤ length s
      → FilesAre s (length s) (count (file_width (version_of s)) s (files_at s)) (past_count (file_width (version_of s)) (files_at s)) 0 0 a c u → a ≡ length s → c ≤ item_limit → u ≤ most_uses (version_of s) → Sound s
  unfolding decode encode fields byte-list
  put_together a c u H R F M low high le G last hc hu =
      let st = counted-files (file_width (version_of s)) (files_at s) a c u le G last in
      let X1 = string (text s header) in
      let X2 = count-list (folder_width (version_of s)) string (counted_by (folder_width (version_of s)) (after s) (text s) s (folders_at s)) in
      let X3 = byte-list remapping (counted (after_remapping s) (remapping_at s) s (remappings_at s)) in
      let X4 = count-list (file_width (version_of s)) file (counted_by (file_width (version_of s)) (after_file s) (file_at s) s (files_at s)) in
      let o1 = R.onward in
      let w1 = R.within in
      let o2 = F.onward in
      let w2 = F.within in
      let o3 = M.onward in
      let w3 = M.within in
      let whole : Stands s header (X1 ++ (X2 ++ (X3 ++ X4))) (length s) =
      stands-then s X1 (X2 ++ (X3 ++ X4)) header (folders_at s) (length s) R.stands
      (stands-then s X2 (X3 ++ X4) (folders_at s) (remappings_at s) (length s) F.stands
      (stands-then s X3 X4 (remappings_at s) (files_at s) (length s) M.stands st)) in
      let l1 = stands-length s X1 header (folders_at s) R.stands o1 w1 in
      let l2 = stands-length s X2 (folders_at s) (remappings_at s) F.stands o2 w2 in
      let l3 = stands-length s X3 (remappings_at s) (files_at s) M.stands o3 w3 in
      let n0 = H.long in
      let len : length (X1 ++ (X2 ++ (X3 ++ X4))) ≡ length s - header = stands-length s (X1 ++ (X2 ++ (X3 ++ X4))) header (length s) whole n0 E in
      let cw = H.counts in
      let b1 = B 1 in
      let b2 = B 2 in
      let z : past_count (file_width (version_of s)) (files_at s) ≡ header + length X1 + length X2 + length X3 + width (file_width (version_of s)) = omega (arith, l1, l2, l3) in
      let one : 1 + 2 ≡ header = refl in
      let end : length s ≡ after_length s 1 = omega (arith, n0) in
      let body : Stands s (1 + 2) (X1 ++ (X2 ++ (X3 ++ X4))) (after_length s 1) = rw (← end) whole in
      let two_up : Stands s 1 (sized (X1 ++ (X2 ++ (X3 ++ X4)))) (after_length s 1) = stands-sized s B (X1 ++ (X2 ++ (X3 ++ X4))) 1 (omega arith) body in
      let two-up' : Stands s 1 (sized (X1 ++ (X2 ++ (X3 ++ X4)))) (length s) = rw end two_up in
      let zero-up : Stands s 0 (byte s 0 ∷ sized (X1 ++ (X2 ++ (X3 ++ X4)))) (length s) =
      stands-then s (byte s 0 ∷ []) (sized (X1 ++ (X2 ++ (X3 ++ X4)))) 0 1 (length s) (stands-byte s 0 (omega arith)) two-up' in
      record {
        formed = record {
          version = H.is_defined;
          root = R.formed;
          folder_count_within = F.most;
          folders = F.every;
          remapping_count_within = M.most;
          remappings = M.every;
          some_file = rw G.size low;
          file_count_within = rw G.size high;
          files = G.every;
          item_count_within = omega (arith, G.count);
          use_count_within = omega (arith, G.uses);
          marks = rw (← z) G.marked;
          size = omega (arith, len);
        };
        encoded = zero-up ∙ rw (drop-length s) (ap (λ (l : List ℕ). byte s 0 ∷ l) (append-nil (sized (X1 ++ (X2 ++ (X3 ++ X4))))));
      }

pub form-sound : (s : List ℕ) → Bytes s → form s ≡ Ok → Sound s
unfolding files scan_list scan_field
form-sound s B h =
    let E : length s ≤ length s = omega arith in
    let v = version_of s in
    let w = file_width v in
    let p = form-parts s h in
    let R = formed-read s B (length s) E is_path 4 header (folders_at s) p.root in
    let F = count-read s B (length s) E (folder_width v) IsPath string (after s) (text s) (scan_path s (length s)) (formed-read s B (length s) E is_path 4) 0 (most_folders v) (folders_at s) (remappings_at s) p.folders in
    let M = count-read s B (length s) E Byte FormedRemapping remapping (after_remapping s) (remapping_at s) (scan_field RemappingField s (length s)) (remapping-read s B (length s) E) 0 remapping_limit (remappings_at s) (files_at s) p.remappings in
    let m = went_on (scan_count w 1 (most_files v) s (length s) (files_at s)) p.files_pass in
    let c = count_next s (length s) (files_at s) w 1 (most_files v) m.first in
    let g = went_walk (scan_files (count w s (files_at s)) s (length s) m.mid 0 0) m.second in
    let G = files_are s B (length s) E (count w s (files_at s)) m.mid 0 0 g.at g.count g.uses c.1 (omega arith) (omega arith) g.first in
    let l = went_on (scan_end (length s) g.at) g.second in
    let e = end-next s (length s) g.at l.first in
    let G' = subst (λ (k : ℕ). FilesAre s (length s) (count w s (files_at s)) k 0 0 g.at g.count g.uses) c.0 G.0 in
    let x = c.0 in
    let y = c.1 in
    put_together s B E g.at g.count g.uses p.headed R F M c.2 c.3 (omega arith) G' e.0 G.1 G.2
