-- What a stranger must believe: what becomes of the templates of a picture.
pub mod Layouts
