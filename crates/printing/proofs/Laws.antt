-- Laws of the definitions beside this folder, a file a topic.
pub mod Puts
pub mod Examples
pub mod Printed
pub mod Sizes
