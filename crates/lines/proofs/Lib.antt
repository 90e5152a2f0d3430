-- Numbers are read as they are written, parts are joined as they were parted, and bytes put behind each other are put at once.
pub mod Numbers
pub mod Parts
pub mod Puts
